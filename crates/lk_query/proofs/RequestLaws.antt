-- The parts of a request, or the first refusal of them.
use Rattle.std.proofs.Common.{◌≡◌, ℕ, List}
use Rattle.std.specs.Prelude.{Result, Ok, Err}
use Rattle.lk_body.specs.Faults.{is_no_memory}
use Rattle.lk_body.specs.declared.fault.QueryFault.{QueryFault}
use Rattle.lk_types.specs.declared.bound.Sort.{Sort}
use Rattle.lk_types.specs.declared.model.Pick.{Pick}
use Rattle.lk_val.specs.Memory.{Unless}
use Rattle.lk_query.specs.Bindings.{request_from}
use Rattle.lk_query.specs.declared.texts.FilterText.{FilterText}
use Rattle.lk_query.proofs.MemoryLaws.{unless_weaker}

-- given: what is known of the limit and found for the names, by the parts that were made
module _ (limit : Result ℕ QueryFault) (picks : Result (List Pick) QueryFault) (filters : Result (List FilterText) QueryFault) (sorts : Result (List Sort) QueryFault) (access : Result (List FilterText) QueryFault) where
  abbrev IsFirst : QueryFault → Type 0
  IsFirst fault = Unless (is_no_memory fault) (Err fault ≡ request_from limit picks filters sorts access)

  pub no_picks : (fault : QueryFault) (n : ℕ) → Ok n ≡ limit → Unless (is_no_memory fault) (Err fault ≡ picks) → IsFirst fault
  no_picks fault n one h = unless_weaker (is_no_memory fault) (λ is i. request_from (one i) (is i) filters sorts access) h

  pub no_filters : (fault : QueryFault) (n : ℕ) (ps : List Pick) → Ok n ≡ limit → Ok ps ≡ picks → Unless (is_no_memory fault) (Err fault ≡ filters) → IsFirst fault
  no_filters fault n ps one two h = unless_weaker (is_no_memory fault) (λ is i. request_from (one i) (two i) (is i) sorts access) h

  pub no_sorts : (fault : QueryFault) (n : ℕ) (ps : List Pick) (fs : List FilterText) → Ok n ≡ limit → Ok ps ≡ picks → Ok fs ≡ filters
      → Unless (is_no_memory fault) (Err fault ≡ sorts) → IsFirst fault
  no_sorts fault n ps fs one two three h = unless_weaker (is_no_memory fault) (λ is i. request_from (one i) (two i) (three i) (is i) access) h

  pub no_access : (fault : QueryFault) (n : ℕ) (ps : List Pick) (fs : List FilterText) (ss : List Sort) → Ok n ≡ limit → Ok ps ≡ picks → Ok fs ≡ filters → Ok ss ≡ sorts
      → Unless (is_no_memory fault) (Err fault ≡ access) → IsFirst fault
  no_access fault n ps fs ss one two three four h = unless_weaker (is_no_memory fault) (λ is i. request_from (one i) (two i) (three i) (four i) (is i)) h

  pub all_known : (n : ℕ) (ps : List Pick) (fs : List FilterText) (ss : List Sort) (xs : List FilterText) → Ok n ≡ limit → Ok ps ≡ picks → Ok fs ≡ filters → Ok ss ≡ sorts → Ok xs ≡ access
      → Ok (record { limit = n; picks = ps; filters = fs; sorts = ss; access = xs }) ≡ request_from limit picks filters sorts access
  all_known n ps fs ss xs one two three four five = λ i. request_from (one i) (two i) (three i) (four i) (five i)
