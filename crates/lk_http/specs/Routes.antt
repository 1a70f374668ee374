-- The routes of the server, all for the method POST. (lookd)
use Rattle.std.specs.Prelude.{ℕ, ◌==◌, Bool, true, false, not, ◌&&◌, ◌||◌, nat_le, nat_eq, if◌then◌else◌, List, [], ◌∷◌, ◌++◌, Option, Some, None, codes, length}
use Rattle.std.specs.Char.{is_ascii_alphanumeric}
use Rattle.std.specs.List.{list_all, slice_split}
use Rattle.std.specs.Option.{option_and_then}
use Rattle.matchit.specs.Rows.{RowsOf, param_token}
use Rattle.matchit.specs.Router.{RouteOf}
use Rattle.lk_val.specs.Texts.{is_same_text}
use Rattle.lk_http.specs.declared.request.Target.{Target}
use Rattle.lk_http.specs.declared.request.Target.TheVariants.{Query, Load, Check}
use Rattle.lk_http.specs.declared.routes.Route.{Route}
use Rattle.lk_http.specs.declared.routes.Route.TheVariants as route

-- ---- the route of a path

-- one last piece, which is not empty
abbrev pub last_in : Route → List (List ℕ) → Option Route
last_in r ((b ∷ piece) ∷ []) = Some r
last_in r pieces = None

abbrev pub check_in : List (List ℕ) → Option Route
check_in [] = Some route.Check
check_in pieces = None

-- the mode of a load, and its id
abbrev pub mode_in : List (List ℕ) → Option Route
mode_in (mode ∷ pieces) =
    if is_same_text (codes "append") mode then last_in route.Append pieces
    else if is_same_text (codes "replace") mode then last_in route.Replace pieces
    else None
mode_in [] = None

-- the table of a load, and what follows
abbrev pub load_in : List (List ℕ) → Option Route
load_in ((b ∷ table) ∷ pieces) = mode_in pieces
load_in pieces = None

abbrev pub command_in : List ℕ → List (List ℕ) → Option Route
command_in command pieces =
    if is_same_text (codes "check") command then check_in pieces
    else if is_same_text (codes "load") command then load_in pieces
    else if is_same_text (codes "query") command then last_in route.Query pieces
    else None

-- the route of a path's pieces between slashes, of which the first is empty: `/check`, `/query/EXPLORE`, `/load/TABLE/append/ID`
-- or `/load/TABLE/replace/ID`
abbrev pub route_in : List (List ℕ) → Option Route
route_in ([] ∷ command ∷ pieces) = command_in command pieces
route_in pieces = None

-- ---- the routes as the router keeps them

-- a parameter behind a slash, and what follows it
abbrev pub and_parameter : List ℕ → List ℕ → List ℕ
and_parameter front more = front ++ param_token ∷ more

-- a route as the router keeps it: its tokens, its text, and where the names of its parameters stand in that
abbrev pub routed : List ℕ → List ℕ → List (ℕ × ℕ) → Route → RouteOf Route
routed pattern text names value = record { pattern = pattern; text = text; names = names; value = value }

abbrev pub kept_route : Route → RouteOf Route
kept_route route.Check = routed (codes "/check") (codes "/check") [] route.Check
kept_route route.Query = routed (and_parameter (codes "/query/") []) (codes "/query/{explore}") ((8, 15) ∷ []) route.Query
kept_route route.Append =
    routed (and_parameter (codes "/load/") (and_parameter (codes "/append/") [])) (codes "/load/{table}/append/{id}") ((7, 12) ∷ (22, 24) ∷ []) route.Append
kept_route route.Replace =
    routed (and_parameter (codes "/load/") (and_parameter (codes "/replace/") [])) (codes "/load/{table}/replace/{id}") ((7, 12) ∷ (23, 25) ∷ []) route.Replace

abbrev pub row_of : Route → List ℕ × RouteOf Route
row_of r = ((kept_route r).pattern, kept_route r)

abbrev pub server_routes : RowsOf (RouteOf Route)
server_routes = row_of route.Check ∷ row_of route.Append ∷ row_of route.Replace ∷ row_of route.Query ∷ []

-- ---- the target of a path

-- a byte of a name of an explore or a table: a letter, a digit or an underscore
abbrev pub is_name_byte : ℕ → Bool
is_name_byte b = is_ascii_alphanumeric b || b == 95

-- a byte of a load's id: also a dot or a hyphen
abbrev pub is_id_byte : ℕ → Bool
is_id_byte b = is_name_byte b || b == 46 || b == 45

-- a name has a byte or more
abbrev pub is_name : List ℕ → Bool
is_name piece = not (nat_eq (length piece) 0) && list_all is_name_byte piece

-- an id has 1 to 64 bytes
abbrev pub is_id : List ℕ → Bool
is_id piece = not (nat_eq (length piece) 0) && nat_le (length piece) 64 && list_all is_id_byte piece

-- the target of a route's pieces, where its names are names
abbrev pub query_of : List ℕ → Option Target
query_of explore = if is_name explore then Some (Query explore) else None

abbrev pub load_of : List ℕ → Bool → List ℕ → Option Target
load_of table replaces id = if is_name table && is_id id then Some (Load table replaces id) else None

abbrev pub target_by : List (List ℕ) → Route → Option Target
target_by pieces route.Check = Some Check
target_by (front ∷ command ∷ explore ∷ []) route.Query = query_of explore
target_by (front ∷ command ∷ table ∷ mode ∷ id ∷ []) route.Append = load_of table false id
target_by (front ∷ command ∷ table ∷ mode ∷ id ∷ []) route.Replace = load_of table true id
target_by pieces r = None

abbrev pub target_in : List (List ℕ) → Option Target
target_in pieces = option_and_then (target_by pieces) (route_in pieces)

-- the target of a path; nothing is percent-decoded
abbrev pub target_of : List ℕ → Option Target
target_of path = target_in (slice_split (λ b. b == 47) path)
