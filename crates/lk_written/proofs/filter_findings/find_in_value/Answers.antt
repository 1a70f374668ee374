use Rattle.std.proofs.Common.{◌≡◌, codes, not, subst}
use Rattle.std.specs.Prelude.{IfOk}
use Rattle.std.specs.List.{flat_map, fold}
use Rattle.lk_params.specs.Findings.{sooner}
use Rattle.lk_written.specs.Values.{is_pair}
use Rattle.lk_written.specs.ValueFindings.{wrong}
use Rattle.lk_written.proofs.filter_findings.find_in_value.Goals as goal

pub returns-in-List : goal.returns-in-List
returns-in-List c =
    let a = c.args in
    let found = subst (λ es. IfOk c.find_in_entries.result (λ x. c.find_in_entries.new.findings.first ≡ fold sooner a.findings.now.first (flat_map (λ e. wrong a.order a.object.now a.at.now (codes "filters") (not (is_pair e))) es))) c.as_slice.ensures c.find_in_entries.ensures in
    rw c.in-List.is found
