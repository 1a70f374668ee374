-- The types of the named dimensions and measures of an explore.
use Rattle.std.specs.Prelude.{List, []}
use Rattle.lk_resolved.specs.Names.{dimensions, measures}

-- the type of what stands in a list
abbrev pub ItemOf : {A : Type 0} → List A → Type 0
ItemOf {A} xs = A

-- a dimension of an explore by its full name
abbrev pub NamedDimension : Type 0
NamedDimension = ItemOf (dimensions [] (record { parts = [] }))

-- a measure of an explore by its full name
abbrev pub NamedMeasure : Type 0
NamedMeasure = ItemOf (measures [] (record { parts = [] }))
