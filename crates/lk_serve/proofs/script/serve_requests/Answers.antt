-- The console holds the same references after the session, so they have what the link ended with.
use Rattle.std.proofs.Common.{rules}
use Rattle.lk_serve.proofs.ConsoleLaws.{same_input, same_out}
use Rattle.lk_serve.proofs.script.serve_requests.Goals as goal

pub returns-clause-run : goal.returns-clause-run
returns-clause-run g c =
    let input = same_input _ _ c.session.ensures.ways in
    let out = same_out _ _ c.session.ensures.ways in
    search rules

pub returns-clause-read : goal.returns-clause-read
returns-clause-read g c =
    let input = same_input _ _ c.session.ensures.ways in
    let out = same_out _ _ c.session.ensures.ways in
    search rules

pub returns-clause-write : goal.returns-clause-write
returns-clause-write g c =
    let input = same_input _ _ c.session.ensures.ways in
    let out = same_out _ _ c.session.ensures.ways in
    search rules

pub returns-clause-counts : goal.returns-clause-counts
returns-clause-counts g c =
    let input = same_input _ _ c.session.ensures.ways in
    let out = same_out _ _ c.session.ensures.ways in
    search rules
