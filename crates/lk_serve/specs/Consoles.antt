-- A console has a run's input and output, each behind a reference, and keeps these references.
use Rattle.std.specs.Prelude.{◌≡◌}
use Rattle.lk_serve.specs.declared.console.Console.{Console}

-- a pull keeps both references, and the output
pub record KeepsAtPull {I O : Type 0} (old new : Console I O) : Type 0 where
  pub same_input : new.input.ghost_name ≡ old.input.ghost_name
  pub same_out : new.out.ghost_name ≡ old.out.ghost_name
  pub out : new.out.now ≡ old.out.now

-- a put keeps both references, and the input
pub record KeepsAtPut {I O : Type 0} (old new : Console I O) : Type 0 where
  pub same_input : new.input.ghost_name ≡ old.input.ghost_name
  pub same_out : new.out.ghost_name ≡ old.out.ghost_name
  pub input : new.input.now ≡ old.input.now
