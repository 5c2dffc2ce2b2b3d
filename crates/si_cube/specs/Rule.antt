-- (field) The sum that is chosen among the covers.
use Rattle.std.specs.Prelude.{ℕ, not, ◌||◌, Bool, List, [], ◌∷◌, ◌++◌, if◌then◌else◌}
use Rattle.std.specs.List.{list_any, list_all}
use Rattle.si_base.specs.declared.ids.Literal.{Literal}
use Rattle.si_base.specs.Netlist.{Sum, literal_value, sum_value}
use Rattle.si_cube.specs.Literals.{full_literals}
use Rattle.si_cube.specs.Covers.{Demand}
use Rattle.si_cube.specs.Needed.{needed}

abbrev pub covers : List Literal → ℕ → Bool
covers cube code = list_all (literal_value code) cube

-- the cube covers one of the codes
abbrev pub covers_any : List ℕ → List Literal → Bool
covers_any codes cube = list_any (covers cube) codes

-- a literal is needless if the others cover no forbidden code
abbrev pub is_needless_literal : List ℕ → Literal → List Literal → Bool
is_needless_literal forbidden l others = not (covers_any forbidden others)

-- the full cube of a code, less its needless literals in signal order
abbrev pub grown : ℕ → List ℕ → ℕ → List Literal
grown signals forbidden code = needed (is_needless_literal forbidden) (full_literals signals 0 code)

-- for each of the codes that no cube so far covers, in order, its grown cube is put last
abbrev pub grown_cubes : ℕ → List ℕ → Sum → List ℕ → Sum
grown_cubes signals forbidden sofar [] = sofar
grown_cubes signals forbidden sofar (code ∷ codes) =
    grown_cubes signals forbidden (if sum_value code sofar then sofar else
    sofar ++ grown signals forbidden code
    ∷ []) codes

-- a cube is needless if the others cover each required code that it covers
abbrev pub is_needless_cube : List ℕ → List Literal → Sum → Bool
is_needless_cube required cube others =
    list_all (λ code. not (covers cube code) || sum_value code others) required

-- the grown cubes of the required codes, less the needless ones in order
abbrev pub chosen : ℕ → Demand → Sum
chosen signals d = needed (is_needless_cube d.required)
    (grown_cubes signals d.forbidden [] d.required)
