-- The names of tables, each taken where it first stands.
use Rattle.std.proofs.Common.{◌≡◌, ◌∙◌, ◌+◌, ◌<◌, ℕ, Bool, true, false, not, List, [], ◌∷◌, ◌++◌, length, take, drop, get_or, refl, sym, ap, append_assoc}
use Rattle.std.specs.Prelude.{if◌then◌else◌}
use Rattle.std.specs.List.{list_any}
use Rattle.lk_val.specs.Texts.{is_same_text}
use Rattle.lk_schema.specs.declared.schema.Declared.{Declared}
use Rattle.lk_schema.specs.Schemas.{tables_in}
use Rattle.lk_schema.proofs.RowLaws.{taken, put_behind}

-- a row more: its table is added where no row before has it
pub table_step : (names : List (List ℕ)) (rows : List Declared) (i : ℕ) (x : Declared) → i < length rows → x ≡ get_or rows i x
    → (new : Bool) → new ≡ not (list_any (λ other. is_same_text other.table x.table) (take i rows))
    → (if new then names ++ x.table ∷ [] else names) ++ tables_in (take (i + 1) rows) (drop (i + 1) rows) ≡ names ++ tables_in (take i rows) (drop i rows)
table_step names rows i x lt is new e =
    ap (λ t. (if new then names ++ x.table ∷ [] else names) ++ tables_in t (drop (i + 1) rows)) (put_behind rows i x lt is)
    ∙ by_new (list_any (λ other. is_same_text other.table x.table) (take i rows)) new e
    ∙ sym (ap (λ t. names ++ tables_in (take i rows) t) (taken rows i x lt is))
  where
    by_new : (known new : Bool) → new ≡ not known
        → (if new then names ++ x.table ∷ [] else names) ++ tables_in (take i rows ++ x ∷ []) (drop (i + 1) rows)
        ≡ names ++ (if known then tables_in (take i rows ++ x ∷ []) (drop (i + 1) rows) else x.table ∷ tables_in (take i rows ++ x ∷ []) (drop (i + 1) rows))
    by_new true false e = refl
    by_new false true e = append_assoc names (x.table ∷ []) (tables_in (take i rows ++ x ∷ []) (drop (i + 1) rows))
    by_new true true e = cc
    by_new false false e = cc
