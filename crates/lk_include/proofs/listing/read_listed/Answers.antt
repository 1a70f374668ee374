use Rattle.std.proofs.Common.{rules}
use Rattle.lk_include.proofs.ListingLaws.{unlisted, listed}
use Rattle.lk_include.proofs.listing.read_listed.Goals as goal

pub returns-then-not-is_among-clause-body : goal.returns-then-not-is_among-clause-body
returns-then-not-is_among-clause-body g c = unlisted (g.F.Files.told c.args.files.now) c.args.path.now c.args.listing.now (search rules) c.requires

pub read-requires : goal.read-requires
read-requires g c = listed (g.F.Files.told c.args.files.now) c.args.path.now c.args.listing.now (search rules) c.requires
