use Rattle.std.proofs.Common.{◌≡◌, ◌%◌, ◌∙◌, ap, arith}
use Rattle.std.proofs.lemmas.Int.{to_z-of_z}
use Rattle.jiff_core.proofs.SignedLemmas.{signed_arith}
use Rattle.lk_val.specs.declared.value.Value.TheVariants as value
use Rattle.lk_types.specs.Calendar.{from_year_one}
use Rattle.lk_time.proofs.CivilLaws.{from_year_one-pos}
use Rattle.lk_time.proofs.civil.week_start.Goals as goal

pub returns : goal.returns
returns c =
    let n = from_year_one-pos c.args.day c.requires.0 in
    let weekday = simp (to_z-of_z, c.ranges.day) at c.weekday_of.ensures in
    let index : c.index.result ≡ from_year_one c.args.day % 7 = c.index.ensures.value ∙ weekday in
    record {
      start = ap value.Day (omega (arith, signed_arith, n, index, c.from.ensures, c.requires));
      in_range = (omega (arith, signed_arith, n, index, c.from.ensures, c.requires), omega (arith, signed_arith, n, index, c.from.ensures, c.requires));
    }
