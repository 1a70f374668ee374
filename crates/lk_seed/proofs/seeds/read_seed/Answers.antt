use Rattle.std.proofs.Common.{rules}
use Rattle.lk_seed.proofs.SeedLaws.{path_listed, path_unlisted}
use Rattle.lk_seed.proofs.seeds.read_seed.Goals as goal

pub returns-then-not-is_among-clause-seed : goal.returns-then-not-is_among-clause-seed
returns-then-not-is_among-clause-seed g c =
    path_unlisted (g.F.Files.told c.args.files.now) c.in_ok-path.path _ c.args.paths.now c.in_ok-path.ensures (search rules) c.requires

pub read-requires : goal.read-requires
read-requires g c =
    path_listed (g.F.Files.told c.args.files.now) c.in_ok-path.path c.args.paths.now (search rules) c.requires
