use Rattle.std.proofs.Common.{◌∙◌, ◌+◌, [], ap, sym, arith, map, drop, List, Bor, ℕ}
use Rattle.std.specs.Prelude.{Err}
use Rattle.lk_table.specs.Batches.{or_wrong, places_of, unless_among}
use Rattle.lk_table.specs.declared.fault.BatchFault.TheVariants.{L3}
use Rattle.lk_table.proofs.ReadLaws.{place_fails, place_reads}
use Rattle.lk_table.proofs.header.read_places.Goals as goal

abbrev no_name : Bor (List ℕ)
no_name = record { ref_ptr = (0, 0); now = [] }

pub loop-name-preserved : goal.loop-name-preserved
loop-name-preserved c =
    let names = c.args.names.now in
    let i = c.loop-name.name-index in
    let found = sym c.in-Some.is ∙ c.unless_among.ensures ∙ ap (λ places. unless_among places c.place_named.result) c.deref.ensures.value
    ∙ ap (unless_among c.loop-name.places.items) c.place_named.ensures in
    ap (λ places. places_of c.args.columns.now places (drop (i + 1) (map (λ (n : Bor (List ℕ)). n.now) names))) c.in_ok-push-in-Some.ensures.items
    ∙ place_reads c.args.columns.now names c.loop-name.places.items i no_name (omega arith) c.in-Some.place found
    ∙ c.loop-name.invariant

pub returns-in-None-clause-fault : goal.returns-in-None-clause-fault
returns-in-None-clause-fault c =
    let names = c.args.names.now in
    let i = c.loop-name.name-index in
    let found = sym c.in-None.is ∙ c.unless_among.ensures ∙ ap (λ places. unless_among places c.place_named.result) c.deref.ensures.value
    ∙ ap (unless_among c.loop-name.places.items) c.place_named.ensures in
    ap (or_wrong {A = List ℕ} 0)
    (sym c.loop-name.invariant ∙ place_fails c.args.columns.now names c.loop-name.places.items i no_name (omega arith) found)
    ∙ ap (λ (name : List ℕ). Err (L3 0 name)) (sym c.in_ok-carried-in-None.ensures)
