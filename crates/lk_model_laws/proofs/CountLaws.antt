-- An explore has one part more than joins.
use Rattle.std.proofs.Common.{◌≡◌, ◌∙◌, ℕ, suc, ◌+◌, true, false, List, [], ◌∷◌, length, refl, ap, subst, sym, arith}
use Rattle.std.specs.Prelude.{nat_eq, nat_le, nat_lt}
use Rattle.std.proofs.lemmas.List.{length-map}
use Rattle.lk_types.specs.declared.schema.Schema.{Schema}
use Rattle.lk_objects.specs.declared.explore.DeclaredExplore.{DeclaredExplore}
use Rattle.lk_objects.specs.declared.explore.DeclaredJoin.{DeclaredJoin}
use Rattle.lk_objects.specs.declared.view.DeclaredView.{DeclaredView}
use Rattle.lk_fields.specs.declared.scope.Scope.{Scope}
use Rattle.lk_fields.specs.declared.scope.ScopePart.{ScopePart}
use Rattle.lk_formulas.specs.declared.columns.ColumnKinds.{ColumnKinds}
use Rattle.lk_scope.specs.Scopes.{part_of_join, scope_of}
use Rattle.lk_resolved.specs.Explores.{joins_from, parts_from}

module _ (schema : Schema) (views : List DeclaredView) (scope : Scope) (columns : ColumnKinds) where
  pub length-joins : (joins : List DeclaredJoin) (part : ℕ) (more : List DeclaredJoin) → length (joins_from schema views scope columns joins part more) ≡ length more
  length-joins joins part [] = refl
  length-joins joins part (join ∷ more) = ap suc (length-joins joins (part + 1) more)

  pub length-parts : (n : ℕ) (parts : List ScopePart) → length (parts_from schema views scope columns n parts) ≡ length parts
  length-parts n [] = refl
  length-parts n (part ∷ parts) = ap suc (length-parts (n + 1) parts)

  pub few : (joins more : List DeclaredJoin) (part : ℕ) → nat_lt 31 (length more) ≡ false → nat_le (length (joins_from schema views scope columns joins part more)) 31 ≡ true
  few joins more part h = subst (λ n. nat_le n 31 ≡ true) (sym (length-joins joins part more)) (at_most (length more) h)
    where
      at_most : (n : ℕ) → nat_lt 31 n ≡ false → nat_le n 31 ≡ true
      at_most n is = grind arith

pub one_more : (schema : Schema) (views : List DeclaredView) (columns : ColumnKinds) (x : DeclaredExplore)
    → nat_eq (length (parts_from schema views (scope_of views x) columns 0 (scope_of views x).parts)) (length (joins_from schema views (scope_of views x) columns x.joins 1 x.joins) + 1) ≡ true
one_more schema views columns x =
    counted (length (parts_from schema views (scope_of views x) columns 0 (scope_of views x).parts)) (length (joins_from schema views (scope_of views x) columns x.joins 1 x.joins)) (length x.joins)
    (length-parts schema views (scope_of views x) columns 0 (scope_of views x).parts ∙ ap suc (length-map x.joins (part_of_join views)))
    (length-joins schema views (scope_of views x) columns x.joins 1 x.joins)
  where
    counted : (a b n : ℕ) → a ≡ suc n → b ≡ n → nat_eq a (b + 1) ≡ true
    counted a b n p q = grind arith
