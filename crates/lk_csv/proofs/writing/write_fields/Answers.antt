use Rattle.std.proofs.Common.{◌≢◌, ◌∙◌}
use Rattle.csv.specs.declared.writer.QuoteStyle.TheVariants as style
use Rattle.lk_csv.specs.Records.{record_text}
use Rattle.lk_csv.proofs.writing.write_fields.Goals as goal

pub returns-in-Ok : goal.returns-in-Ok
unfolding record_text
returns-in-Ok c =
    let made = c.from_writer-writer.ensures in
    let setup = made.cfg ∙ c.new.ensures in
    let plain : c.from_writer-writer.result.cfg.style ≢ style.NonNumeric = rw setup (λ same. cc same) in
    let wrote = c.in_ok-write_fields.ensures.bytes made.fields made.wrote plain in
    c.from_vec.ensures ∙ c.in-Ok.ensures.ok ∙ rw (setup, made.wtr, made.empty, c.new-2.ensures.items) at wrote
