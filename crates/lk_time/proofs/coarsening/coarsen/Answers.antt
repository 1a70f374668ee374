use Rattle.std.proofs.Common.{◌∙◌, sym, subst, ap}
use Rattle.lk_time.specs.FrameValues.{IsInYears, frame_value}
use Rattle.lk_time.proofs.AgainLaws.{same_frame, frame_value-again, frame_value-IsInYears}
use Rattle.lk_time.proofs.coarsening.coarsen.Goals as goal

pub returns-then-is_same_frame-clause-value : goal.returns-then-is_same_frame-clause-value
returns-then-is_same_frame-clause-value c = λ w is e.
    let same = same_frame c.args.to c.args.from (sym c.is_same_frame.ensures ∙ c.if-is_same_frame.true) in
    c.keep.ensures ∙ sym e ∙ ap (λ f. frame_value f w) (sym same)

pub frame-requires : goal.frame-requires
frame-requires c =
    let source = c.requires.of_frame in
    record {
      in_years = subst IsInYears source.same (frame_value-IsInYears c.args.from c.args.to c.requires.no_weekday (sym c.is_had_from.ensures ∙ c.if-not-is_had_from.false) (sym c.is_same_frame.ensures ∙ c.if-is_same_frame.false) source.source source.in_years);
    }

pub returns-clause-value : goal.returns-clause-value
returns-clause-value c = λ w is e.
    let again = frame_value-again c.args.from c.args.to c.requires.no_weekday (sym c.is_had_from.ensures ∙ c.if-not-is_had_from.false) (sym c.is_same_frame.ensures ∙ c.if-is_same_frame.false) w is in
    c.frame.ensures.value ∙ ap (frame_value c.args.to) (sym e) ∙ again
