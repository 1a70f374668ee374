use Rattle.std.proofs.Common.{◌≡◌, ◌∙◌, [], ap, map, subst, Bor, List, ℕ}
use Rattle.std.specs.Prelude.{IfErr, IfOk, Ok, Err}
use Rattle.lk_val.specs.Memory.{Unless}
use Rattle.lk_table.specs.Batches.{or_wrong, places_of}
use Rattle.lk_table.specs.Faults.{is_no_memory}
use Rattle.lk_table.proofs.header.places_in.Goals as goal

pub returns-clause-ok : goal.returns-clause-ok
returns-clause-ok c =
    let told = ap (map (λ (name : Bor (List ℕ)). name.now)) c.deref.ensures.value ∙ c.in_ok-names.ensures in
    subst (λ (names : List (List ℕ)). IfOk c.read_places.result (λ places. places_of c.args.columns.now [] names ≡ Ok places.items)) told
    c.read_places.ensures.ok

pub returns-clause-fault : goal.returns-clause-fault
returns-clause-fault c =
    let told = ap (map (λ (name : Bor (List ℕ)). name.now)) c.deref.ensures.value ∙ c.in_ok-names.ensures in
    subst (λ (names : List (List ℕ)). IfErr c.read_places.result (λ fault. Unless (is_no_memory fault) (or_wrong 0 (places_of c.args.columns.now [] names) ≡ Err fault)))
    told c.read_places.ensures.fault
