-- Writes one after the other add a front of the bytes.
use Rattle.std.proofs.Common.{◌≡◌, ℕ, ◌+◌, ◌-◌, List, length, take, drop, sym, subst, ap, ◌∙◌, length-drop}
use Rattle.std.specs.Prelude.{Option}
use Rattle.std.proofs.Math.Seq.{take-add, take-length}
use Rattle.std.specs.Io.KnownBytes.{Appends, Keeps}
use Rattle.std.proofs.KnownBytes.{Appends-trans, Appends-kept}
use Rattle.lk_io.specs.Streams.{AppendsFront}

-- after the first bytes, a front of the others
pub more_of_front : (a b c : Option (List ℕ)) (bytes : List ℕ) (done count : ℕ) → Appends a b (take done bytes) → Appends b c (take count (drop done bytes)) → Appends a c (take (done + count) bytes)
more_of_front a b c bytes done count p q = subst (Appends a c) (sym (take-add done count bytes)) (Appends-trans a b c _ _ p q)

-- all of the bytes are a front of them
pub all_is_front : (a b c : Option (List ℕ)) (bytes : List ℕ) → Appends a b bytes → Keeps b c → AppendsFront a c bytes
all_is_front a b c bytes p q = (length bytes, subst (Appends a c) (sym (take-length bytes)) (Appends-kept a b c bytes p q))

-- a slice from an index on
pub rest_is_drop : (done : ℕ) (bytes : List ℕ) → take (length bytes - done) (drop done bytes) ≡ drop done bytes
rest_is_drop done bytes = ap (λ n. take n (drop done bytes)) (sym (length-drop done bytes)) ∙ take-length (drop done bytes)
