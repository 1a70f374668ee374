-- The lines and the open braces of a tree under construction.
use Rattle.std.specs.Prelude.{List, [], ◌∷◌, ◌++◌, map, reverse}
use Rattle.std.specs.List.{flat_map}
use Rattle.lk_read.specs.declared.builder.Frame.{Frame}
use Rattle.lk_read.specs.declared.builder.Builder.TheInside.{Inside}
use Rattle.lk_read.specs.Lines.{Line, block}
use Rattle.lk_read.specs.TreeOutline.{lines_of}
use Rattle.lk_read.specs.Built.{Built}

-- the lines before an open block, and its own
abbrev pub frame_lines : Frame → List Line
frame_lines frame = lines_of frame.items.items ++ block frame.name frame.place frame.title ∷ []

abbrev pub built_of : Inside → Built
built_of builder = record {
  lines = flat_map frame_lines builder.frames.items ++ lines_of builder.items.items;
  open_braces = reverse (map (λ frame. frame.brace) builder.frames.items);
}
