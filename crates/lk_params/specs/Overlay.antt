-- Several blocks as one: each parameter is that of the last block which has it. (Looker, LookML reference: extends)
use Rattle.std.specs.Prelude.{ℕ, List, map}
use Rattle.std.specs.List.{flat_map}
use Rattle.lk_val.specs.Texts.{is_same_text}
use Rattle.lk_read.specs.declared.tree.Item.{Item}
use Rattle.lk_params.specs.Parameters.{named}
use Rattle.lk_params.specs.Picking.{firsts, last_given}

-- the names of the parameters, each once, in the order of first standing
abbrev pub names_in : List (List Item) → List (List ℕ)
names_in blocks = firsts is_same_text (flat_map (λ items. map (λ item. item.name) items) blocks)

-- each parameter as the last block that has it gives it; where that block has several of the name, all of them
abbrev pub overlaid : List (List Item) → List Item
overlaid blocks = flat_map (λ name. last_given (map (named name) blocks)) (names_in blocks)
