-- The router finds the route of a path's pieces.
use Rattle.std.proofs.Common.{◌≡◌, ◌∙◌, ℕ, Bool, true, false, List, [], ◌∷◌, ◌++◌, refl, sym, ap, subst, arith, cond, Option, Some, None, eqb-true, Fits, get_or, ne_eqb, suc, w8}
use Rattle.std.specs.Prelude.{⊤, ◌==◌, ◌&&◌, if◌then◌else◌, codes}
use Rattle.std.specs.Option.{option_and_then, option_map}
use Rattle.lk_val.specs.Texts.{is_same_text}
use Rattle.matchit.specs.Router.{RouteOf}
use Rattle.matchit.specs.Rows.{RowsOf, param_token}
use Rattle.matchit.specs.Seek.{first, own, seek, step}
use Rattle.lk_http.specs.declared.routes.Route.{Route}
use Rattle.lk_http.specs.declared.routes.Route.TheVariants as route
use Rattle.lk_http.specs.Routes.{check_in, command_in, kept_route, last_in, load_in, mode_in, route_in, server_routes, target_by, target_of}
use Rattle.lk_http.proofs.PieceLemmas.{behind, first_piece, more_pieces, pieces, pieces_are}
use Rattle.lk_http.proofs.ParamLemmas.{AreBytes, if_piece, inner, last_rows, middle, takes_last, takes_middle}
use Rattle.lk_http.proofs.SeekLemmas.{by_byte, over_none}
use Rattle.lk_http.proofs.WordLemmas.{after_word, at_end, before_slash, ends_path, further, under}

abbrev found : Option Route → Option (RouteOf Route)
found r = option_map kept_route r

abbrev kept : Route → RouteOf Route
kept r = kept_route r

-- the bytes behind a first piece
abbrev AreBehind : Option (List ℕ) → Type 0
AreBehind None = ⊤
AreBehind (Some path) = AreBytes path

bytes_behind : (path : List ℕ) → AreBytes path → AreBehind (behind path)
bytes_behind [] bytes = tt
bytes_behind (b ∷ path) bytes = pick (b == 47) (bytes_behind path bytes.1) where
  pick : (slash : Bool) → AreBehind (behind path) → AreBehind (cond slash (Some path) (behind path))
  pick true more = bytes.1
  pick false more = more

-- ---- a last piece

last_path : (r : Route) (piece : List ℕ) (rest : Option (List ℕ)) → if_piece piece (at_end (kept r) rest) ≡ found (last_in r (piece ∷ more_pieces rest))
last_path r [] rest = refl
last_path r (b ∷ piece) None = refl
last_path r (b ∷ piece) (Some path) = ap (λ (ps : List (List ℕ)). found (last_in r ((b ∷ piece) ∷ ps))) (sym (pieces_are path))

last_behind : (r : Route) (rest : Option (List ℕ)) → AreBehind rest → further (last_rows (kept r)) rest ≡ found (last_in r (more_pieces rest))
last_behind r None bytes = refl
last_behind r (Some path) bytes =
    takes_last (kept r) path bytes ∙ last_path r (first_piece path) (behind path) ∙ ap (λ (ps : List (List ℕ)). found (last_in r ps)) (sym (pieces_are path))

-- ---- loads

abbrev modes : RowsOf (RouteOf Route)
modes = (codes "append/" ++ param_token ∷ [], kept route.Append) ∷ (codes "replace/" ++ param_token ∷ [], kept route.Replace) ∷ []

-- a word, a slash and a last piece
mode_word : (r : Route) (w : List ℕ) (path : List ℕ) → AreBytes path
    → seek 0 (under w (under (47 ∷ []) (last_rows (kept r)))) path ≡ cond (is_same_text w (first_piece path)) (further (last_rows (kept r)) (behind path)) None
    → seek 0 (under w (under (47 ∷ []) (last_rows (kept r)))) path ≡ found (if is_same_text w (first_piece path) then last_in r (more_pieces (behind path)) else None)
mode_word r w path bytes is = is ∙ pick (is_same_text w (first_piece path)) where
  pick : (x : Bool) → cond x (further (last_rows (kept r)) (behind path)) None ≡ found (if x then last_in r (more_pieces (behind path)) else None)
  pick true = last_behind r (behind path) (bytes_behind path bytes)
  pick false = refl

append_rest : (path : List ℕ) → AreBytes path
    → seek 0 ((codes "ppend/" ++ param_token ∷ [], kept route.Append) ∷ []) path ≡ found (mode_in ((97 ∷ first_piece path) ∷ more_pieces (behind path)))
append_rest path bytes =
    mode_word route.Append (codes "ppend") path bytes
    (after_word (under (47 ∷ []) (last_rows (kept route.Append))) (further (last_rows (kept route.Append))) (before_slash (last_rows (kept route.Append)))
    (codes "ppend") ((refl, refl, refl, (refl, refl, refl, (refl, refl, refl, (refl, refl, refl, (refl, refl, refl, tt)))))) path)

replace_rest : (path : List ℕ) → AreBytes path
    → seek 0 ((codes "eplace/" ++ param_token ∷ [], kept route.Replace) ∷ []) path ≡ found (mode_in ((114 ∷ first_piece path) ∷ more_pieces (behind path)))
replace_rest path bytes =
    mode_word route.Replace (codes "eplace") path bytes
    (after_word (under (47 ∷ []) (last_rows (kept route.Replace))) (further (last_rows (kept route.Replace))) (before_slash (last_rows (kept route.Replace)))
    (codes "eplace") ((refl, refl, refl, (refl, refl, refl, (refl, refl, refl, (refl, refl, refl, (refl, refl, refl, (refl, refl, refl, tt))))))) path)

no_mode : (piece : List ℕ) (ps : List (List ℕ)) → is_same_text (codes "append") piece ≡ false → is_same_text (codes "replace") piece ≡ false → found (mode_in (piece ∷ ps)) ≡ None
no_mode piece ps a r =
    ap (λ x. found (if x then last_in route.Append ps else if is_same_text (codes "replace") piece then last_in route.Replace ps else None)) a
    ∙ ap (λ x. found (if x then last_in route.Replace ps else None)) r

-- a first byte that is not the word's
not_word : (c b : ℕ) (w path : List ℕ) → (c == b) ≡ false → is_same_text (c ∷ w) (first_piece (b ∷ path)) ≡ false
not_word c b w path is = pick (b == 47) where
  pick : (slash : Bool) → is_same_text (c ∷ w) (cond slash [] (b ∷ first_piece path)) ≡ false
  pick true = refl
  pick false = ap (λ x. x && is_same_text w (first_piece path)) is

modes_at : (path : List ℕ) → AreBytes path → seek 0 modes path ≡ found (mode_in (first_piece path ∷ more_pieces (behind path)))
unfolding seek
modes_at [] bytes = refl
modes_at (b ∷ path) bytes = by_byte modes b path refl refl ∙ pick (97 == b) (114 == b) refl refl where
  Goal : ℕ → Bool → Bool → Type 0
  Goal n x y = seek 0 (cond x ((codes "ppend/" ++ param_token ∷ [], kept route.Append) ∷ cond y ((codes "eplace/" ++ param_token ∷ [], kept route.Replace) ∷ []) []) (cond y ((codes "eplace/" ++ param_token ∷ [], kept route.Replace) ∷ []) [])) path
      ≡ found (mode_in (first_piece (n ∷ path) ∷ more_pieces (behind (n ∷ path))))

  pick : (x y : Bool) → (97 == b) ≡ x → (114 == b) ≡ y → Goal b x y
  pick true y e f = subst (λ n. (z : Bool) → (114 == n) ≡ z → Goal n true z) (eqb-true 97 b e) (λ z h. subst (Goal 97 true) h (append_rest path bytes.1)) y f
  pick false true e f = subst (λ n. Goal n false true) (eqb-true 114 b f) (replace_rest path bytes.1)
  pick false false e f =
      over_none 0 path
      ∙ sym (no_mode (first_piece (b ∷ path)) (more_pieces (behind (b ∷ path))) (not_word 97 b (codes "ppend") path e) (not_word 114 b (codes "eplace") path f))

-- a table, a slash and a mode
table_path : (piece : List ℕ) (rest : Option (List ℕ)) → AreBehind rest → if_piece piece (further modes rest) ≡ found (load_in (piece ∷ more_pieces rest))
table_path [] rest bytes = refl
table_path (b ∷ piece) None bytes = refl
table_path (b ∷ piece) (Some path) bytes = modes_at path bytes ∙ ap (λ (ps : List (List ℕ)). found (mode_in ps)) (sym (pieces_are path))

abbrev tables : RowsOf (RouteOf Route)
tables = middle (codes "append/" ++ param_token ∷ []) (codes "replace/" ++ param_token ∷ []) (kept route.Append) (kept route.Replace)

table_behind : (rest : Option (List ℕ)) → AreBehind rest → further tables rest ≡ found (load_in (more_pieces rest))
table_behind None bytes = refl
table_behind (Some path) bytes =
    takes_middle (codes "append/" ++ param_token ∷ []) (codes "replace/" ++ param_token ∷ []) (kept route.Append) (kept route.Replace) path bytes
    ∙ table_path (first_piece path) (behind path) (bytes_behind path bytes)
    ∙ ap (λ (ps : List (List ℕ)). found (load_in ps)) (sym (pieces_are path))

-- ---- commands

abbrev commands : RowsOf (RouteOf Route)
commands =
    (codes "check", kept route.Check)
    ∷ (codes "load/" ++ param_token ∷ (codes "/append/" ++ param_token ∷ []), kept route.Append)
    ∷ (codes "load/" ++ param_token ∷ (codes "/replace/" ++ param_token ∷ []), kept route.Replace)
    ∷ (codes "query/" ++ param_token ∷ [], kept route.Query)
    ∷ []

check_behind : (rest : Option (List ℕ)) → at_end (kept route.Check) rest ≡ found (check_in (more_pieces rest))
check_behind None = refl
check_behind (Some path) = ap (λ (ps : List (List ℕ)). found (check_in ps)) (sym (pieces_are path))

check_rest : (path : List ℕ) → seek 0 ((codes "heck", kept route.Check) ∷ []) path ≡ found (command_in (99 ∷ first_piece path) (more_pieces (behind path)))
check_rest path =
    after_word (([], kept route.Check) ∷ []) (at_end (kept route.Check)) (ends_path (kept route.Check))
    (codes "heck") ((refl, refl, refl, (refl, refl, refl, (refl, refl, refl, (refl, refl, refl, tt))))) path
    ∙ pick (is_same_text (codes "heck") (first_piece path))
  where
    pick : (x : Bool) → cond x (at_end (kept route.Check) (behind path)) None ≡ found (if x then check_in (more_pieces (behind path)) else None)
    pick true = check_behind (behind path)
    pick false = refl

abbrev load_rows : RowsOf (RouteOf Route)
load_rows =
    (codes "oad/" ++ param_token ∷ (codes "/append/" ++ param_token ∷ []), kept route.Append)
    ∷ (codes "oad/" ++ param_token ∷ (codes "/replace/" ++ param_token ∷ []), kept route.Replace)
    ∷ []

load_rest : (path : List ℕ) → AreBytes path → seek 0 load_rows path ≡ found (command_in (108 ∷ first_piece path) (more_pieces (behind path)))
load_rest path bytes =
    after_word (under (47 ∷ []) tables) (further tables) (before_slash tables) (codes "oad") ((refl, refl, refl, (refl, refl, refl, (refl, refl, refl, tt)))) path
    ∙ pick (is_same_text (codes "oad") (first_piece path))
  where
    pick : (x : Bool) → cond x (further tables (behind path)) None ≡ found (if x then load_in (more_pieces (behind path)) else None)
    pick true = table_behind (behind path) (bytes_behind path bytes)
    pick false = refl

query_rest : (path : List ℕ) → AreBytes path
    → seek 0 ((codes "uery/" ++ param_token ∷ [], kept route.Query) ∷ []) path ≡ found (command_in (113 ∷ first_piece path) (more_pieces (behind path)))
query_rest path bytes =
    mode_word route.Query (codes "uery") path bytes
    (after_word (under (47 ∷ []) (last_rows (kept route.Query))) (further (last_rows (kept route.Query))) (before_slash (last_rows (kept route.Query)))
    (codes "uery") ((refl, refl, refl, (refl, refl, refl, (refl, refl, refl, (refl, refl, refl, tt))))) path)

no_command : (piece : List ℕ) (ps : List (List ℕ)) → is_same_text (codes "check") piece ≡ false → is_same_text (codes "load") piece ≡ false → is_same_text (codes "query") piece ≡ false
    → found (command_in piece ps) ≡ None
no_command piece ps c l q =
    ap (λ x. found (if x then check_in ps else if is_same_text (codes "load") piece then load_in ps else if is_same_text (codes "query") piece then last_in route.Query ps else None)) c
    ∙ ap (λ x. found (if x then load_in ps else if is_same_text (codes "query") piece then last_in route.Query ps else None)) l
    ∙ ap (λ x. found (if x then last_in route.Query ps else None)) q

commands_at : (path : List ℕ) → AreBytes path → seek 0 commands path ≡ found (command_in (first_piece path) (more_pieces (behind path)))
unfolding seek
commands_at [] bytes = refl
commands_at (b ∷ path) bytes = by_byte commands b path refl refl ∙ pick (99 == b) (108 == b) (113 == b) refl refl refl where
  Rows : Type 0
  Rows = RowsOf (RouteOf Route)

  queries : Bool → Rows
  queries z = cond z ((codes "uery/" ++ param_token ∷ [], kept route.Query) ∷ []) []

  replaces : Bool → Bool → Rows
  replaces y z = cond y ((codes "oad/" ++ param_token ∷ (codes "/replace/" ++ param_token ∷ []), kept route.Replace) ∷ queries z) (queries z)

  loads : Bool → Bool → Rows
  loads y z = cond y ((codes "oad/" ++ param_token ∷ (codes "/append/" ++ param_token ∷ []), kept route.Append) ∷ replaces y z) (replaces y z)

  Goal : ℕ → Bool → Bool → Bool → Type 0
  Goal n x y z = seek 0 (cond x ((codes "heck", kept route.Check) ∷ loads y z) (loads y z)) path ≡ found (command_in (first_piece (n ∷ path)) (more_pieces (behind (n ∷ path))))

  pick : (x y z : Bool) → (99 == b) ≡ x → (108 == b) ≡ y → (113 == b) ≡ z → Goal b x y z
  pick true y z e f g =
      subst (λ n. (v w : Bool) → (108 == n) ≡ v → (113 == n) ≡ w → Goal n true v w) (eqb-true 99 b e)
      (λ v w h k. subst (λ o. Goal 99 true o w) h (subst (Goal 99 true false) k (check_rest path))) y z f g
  pick false true z e f g =
      subst (λ n. (w : Bool) → (113 == n) ≡ w → Goal n false true w) (eqb-true 108 b f) (λ w k. subst (Goal 108 false true) k (load_rest path bytes.1)) z g
  pick false false true e f g = subst (λ n. Goal n false false true) (eqb-true 113 b g) (query_rest path bytes.1)
  pick false false false e f g =
      over_none 0 path
      ∙ sym (no_command (first_piece (b ∷ path)) (more_pieces (behind (b ∷ path))) (not_word 99 b (codes "heck") path e) (not_word 108 b (codes "oad") path f) (not_word 113 b (codes "uery") path g))

-- ---- paths

root_piece : (piece : List ℕ) (rest : Option (List ℕ)) → AreBehind rest → cond (is_same_text [] piece) (further commands rest) None ≡ found (route_in (piece ∷ more_pieces rest))
root_piece [] None bytes = refl
root_piece [] (Some path) bytes = commands_at path bytes ∙ ap (λ (ps : List (List ℕ)). found (route_in ([] ∷ ps))) (sym (pieces_are path))
root_piece (b ∷ piece) rest bytes = refl

-- what the router finds
pub routes_are : (path : List ℕ) → AreBytes path → first server_routes path ≡ found (route_in (pieces path))
routes_are path bytes =
    before_slash commands path ∙ root_piece (first_piece path) (behind path) (bytes_behind path bytes) ∙ ap (λ (ps : List (List ℕ)). found (route_in ps)) (sym (pieces_are path))

bytes_are : (path : List ℕ) → ((i : ℕ) → Fits w8 (get_or path i 0)) → AreBytes path
bytes_are [] fit = tt
bytes_are (b ∷ path) fit = (ne_eqb 256 b (λ e. omega (arith, fit 0, e)), bytes_are path (λ i. fit (suc i)))

module _ (path : List ℕ) (fit : (i : ℕ) → Fits w8 (get_or path i 0)) where
  valued : (r : Route) → (kept_route r).value ≡ r
  valued route.Check = refl
  valued route.Query = refl
  valued route.Append = refl
  valued route.Replace = refl

  value_of : (r : Option Route) (m : RouteOf Route) → found r ≡ Some m → r ≡ Some m.value
  value_of None m h = absurd (cc h)
  value_of (Some r) m h =
      let same : kept_route r ≡ m = cc h in
      ap (λ (v : Route). Some v) (sym (valued r) ∙ ap (λ (k : RouteOf Route). k.value) same)

  none_of : (r : Option Route) → found r ≡ None → r ≡ None
  none_of None h = refl
  none_of (Some r) h = absurd (cc h)

  pub router_finds : (m : RouteOf Route) → first server_routes path ≡ Some m → target_of path ≡ target_by (pieces path) m.value
  router_finds m h = ap (option_and_then (target_by (pieces path))) (value_of (route_in (pieces path)) m (sym (routes_are path (bytes_are path fit)) ∙ h))

  pub router_lacks : first server_routes path ≡ None → target_of path ≡ None
  router_lacks h = ap (option_and_then (target_by (pieces path))) (none_of (route_in (pieces path)) (sym (routes_are path (bytes_are path fit)) ∙ h))
