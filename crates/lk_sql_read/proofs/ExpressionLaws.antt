-- An expression is read from its text.
use Rattle.std.proofs.Common.{◌≡◌, ℕ, true, false, ◌&&◌, List, [], Option, Some, None, refl, ap, ◌∙◌, arith}
use Rattle.std.proofs.lemmas.Bool.{false≢true}
use Rattle.std.proofs.lemmas.Option.{some_pair_parts}
use Rattle.lk_sql_tree.specs.declared.node.SqlNode.{SqlNode}
use Rattle.lk_postfix.specs.Postfix.{is_whole}
use Rattle.lk_postfix.proofs.PostfixLaws.{Builds-none}
use Rattle.lk_sql_tree.specs.SqlNodes.{arity, made, has_lists, sql_of}
use Rattle.lk_sql_tree.specs.Trees.{Sql}
use Rattle.lk_sql_tree.specs.Texts.{text_then}
use Rattle.lk_sql_tree.proofs.NodeLaws.{whole, tree}
use Rattle.lk_sql_read.specs.Expressions.{IsRead, is_clear}
use Rattle.lk_sql_read.specs.Machine.{read, start}
use Rattle.lk_sql_read.specs.declared.open.Open.TheVariants as opens
use Rattle.lk_sql_read.proofs.StepLaws.{read_more}
use Rattle.lk_sql_read.proofs.ReadLaws.{nodes_after, steps, reads}
use Rattle.lk_sql_read.proofs.FitLaws.{Fit, text_fits}
use Rattle.lk_sql_read.proofs.BuildLaws.{builds, lists}

pub nodes_read : (e : Sql) (rest : List ℕ) → IsRead e → is_clear rest ≡ true → read (text_then e rest) start (text_then e rest) ≡ Some (nodes_after [] e, rest)
nodes_read e rest h c =
    let short : Fit [] rest = record { few = omega arith } in
    read_more (steps e []) (text_then e rest) start (text_then e rest) (nodes_after [] e, rest) ((text_fits e h short).few) (reads e rest [] [] [] opens.Outer h c refl)

pub nodes_whole : (e : Sql) → is_whole arity (nodes_after [] e) ≡ true
nodes_whole e = whole (builds e [] [] (Builds-none arity made))

pub nodes_lists : (e : Sql) → has_lists (nodes_after [] e) ≡ true
nodes_lists e = lists e [] refl

pub nodes_tree : (e : Sql) → sql_of (nodes_after [] e) ≡ e
nodes_tree e = tree (builds e [] [] (Builds-none arity made))

-- ---- what is read of a text, given that it is that of an expression

no_some : {A : Type 0} (x : A) → ◌≡◌ {A = Option A} None (Some x) → ⊥
no_some x h = cc h

module _ (text : List ℕ) (e : Sql) (rest : List ℕ) (h : IsRead e) (c : is_clear rest ≡ true) (is : text ≡ text_then e rest) where
  pub found : read text start text ≡ Some (nodes_after [] e, rest)
  found = (λ i. read (is i) start (is i)) ∙ nodes_read e rest h c

  pub nothing : ◌≡◌ {A = Option (List SqlNode × List ℕ)} None (read text start text) → ◌≡◌ {A = Option (Sql × List ℕ)} None (Some (e, rest))
  nothing none = absurd (no_some (nodes_after [] e, rest) (none ∙ found))

  module _ (nodes : List SqlNode) (behind : List ℕ) (so : ◌≡◌ {A = Option (List SqlNode × List ℕ)} (Some (nodes, behind)) (read text start text)) where
    parts : (nodes ≡ nodes_after [] e) × (behind ≡ rest)
    parts = some_pair_parts nodes (nodes_after [] e) behind rest (so ∙ found)

    pub built : (x : Sql) → x ≡ sql_of nodes → ◌≡◌ {A = Option (Sql × List ℕ)} (Some (x, behind)) (Some (e, rest))
    built x same = λ i. Some ((same ∙ ap sql_of parts.0 ∙ nodes_tree e) i, parts.1 i)

    pub unbuilt : false ≡ (is_whole arity nodes && has_lists nodes) → ◌≡◌ {A = Option (Sql × List ℕ)} None (Some (e, rest))
    unbuilt none = absurd (false≢true (none ∙ (λ i. is_whole arity (parts.0 i) && has_lists (parts.0 i)) ∙ (λ i. nodes_whole e i && nodes_lists e i)))
