-- What is asked of the rows that are given to measures over keys.
use Rattle.std.specs.Prelude.{◌≡◌, ℕ, ◌+◌, Bool, true, not, ◌&&◌, ◌||◌, List, [], ◌∷◌, map, filter, is_some, None}
use Rattle.std.specs.List.{list_all}
use Rattle.lk_val.specs.Distinct.{do_differ}
use Rattle.lk_val.specs.Values.{is_same}
use Rattle.lk_semantics.specs.Measures.{Entry, entry_at, key_or_place, uses_key}
use Rattle.lk_types.specs.declared.answer.GivenRow.{GivenRow}
use Rattle.lk_types.specs.declared.explore.Op.{Op}

-- two rows stand at one place
abbrev pub is_same_place : Entry → Entry → Bool
is_same_place a b = is_same (key_or_place None a.0) (key_or_place None b.0)

-- all have keys, or none has one and no two stand at one place
abbrev pub is_regular : List Entry → Bool
is_regular entries = list_all (λ e. is_some e.1.key) entries || (list_all (λ e. not (is_some e.1.key)) entries && do_differ is_same_place entries)

-- what the rows give to the measure at place i, where they count for it
abbrev pub counted : ℕ → List GivenRow → List Entry
counted i rows = filter (λ e. e.1.counts) (map (entry_at i) rows)

-- so it is for each measure over keys, from that at place i on
abbrev pub AreRegularFrom : ℕ → List Op → List GivenRow → Type 0
AreRegularFrom i [] rows = Unit {0}
AreRegularFrom i (o ∷ ops) rows = (uses_key o ≡ true → is_regular (counted i rows) ≡ true) × AreRegularFrom (i + 1) ops rows

abbrev pub AreRegular : List Op → List GivenRow → Type 0
AreRegular ops rows = AreRegularFrom 0 ops rows
