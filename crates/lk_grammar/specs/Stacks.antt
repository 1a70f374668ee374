-- Stacks: the forms that a stack of the code has still to come.
use Rattle.std.specs.Prelude.{ℕ, List, [], ◌∷◌}
use Rattle.lk_grammar.specs.Forms.{Form}
use Rattle.lk_grammar.specs.declared.stack.Top.{Top}
use Rattle.lk_grammar.specs.declared.stack.Top.TheVariants.{Done, Part}

-- the parts of a stack, the next one first
abbrev pub parts_of : Top → List (ℕ × Form)
parts_of Done = []
parts_of (Part depth form rest) = (depth, form.now) ∷ rest.value
