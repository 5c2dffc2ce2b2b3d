-- The listings of small graphs, as texts.
use Rattle.std.proofs.Common.{◌≡◌, ℕ, List, [], ◌∷◌, refl, codes, lit<}
use Rattle.std.proofs.lemmas.Fmt.{decimal_digit}
use Rattle.si_base.specs.declared.graph.Signal.{Signal}
use Rattle.si_base.specs.declared.graph.SigKind.TheVariants.{Input, Output}
use Rattle.si_base.specs.Graph.{rise, fall}
use Rattle.si_cover.proofs.Examples.{coded, plain, complemented}
use Rattle.si_regions.specs.declared.regions.Region.{Region}
use Rattle.si_listings.specs.RegionText.{regions_text}
use Rattle.si_cover.specs.Demands.{chosen_sum}
use Rattle.si_listings.specs.ConflictText.{conflicts_text}
use Rattle.si_listings.specs.CoverText.{Component, LeastCube, NoCube, covers_text, conflict_text, mono_line}

-- ---- two regions of `a+`, where nothing rests after it, and one of `z+`
abbrev signals : List Signal
signals = record { name = codes "a"; kind = Input } ∷ record { name = codes "z"; kind = Output } ∷ []

abbrev names : List (List ℕ)
names = codes "s0" ∷ codes "s1" ∷ codes "s2" ∷ codes "s3" ∷ codes "s4" ∷ codes "s5" ∷ []

abbrev regions : List Region
regions = record { event = rise 0; er = 0 ∷ []; sr = 1 ∷ []; qr = [] }
    ∷ record { event = rise 0; er = 3 ∷ []; sr = 4 ∷ []; qr = [] }
    ∷ record { event = rise 1; er = 2 ∷ []; sr = 3 ∷ []; qr = 3 ∷ 4 ∷ [] } ∷ []

listed : regions_text signals names regions
    ≡ codes "er a+ 1 s0\nsr a+ 1 s1\nqr a+ 1\ner a+ 2 s3\nsr a+ 2 s4\nqr a+ 2\ner z+ 1 s2\nsr z+ 1 s3\nqr z+ 1 s3 s4\n"
unfolding regions_text
listed = rw (decimal_digit 1 (lit< tt), decimal_digit 2 (lit< tt)) refl

-- ---- two conflicts, and none
two : conflicts_text names 2 ((0, 2) ∷ (3, 5) ∷ []) ≡ codes "conflicts 2\ns0 s2\ns3 s5\n"
unfolding conflicts_text
two = rw (decimal_digit 2 (lit< tt)) refl

none : conflicts_text names 0 [] ≡ codes "conflicts 0\n"
unfolding conflicts_text
none = rw (decimal_digit 0 (lit< tt)) refl

-- ---- the covers of the C-element, with its monotonous cubes a b c' and a' b' c
abbrev components : List Component
components = record {
  region = record { event = rise 2; er = 3 ∷ []; sr = 4 ∷ []; qr = 4 ∷ 5 ∷ 6 ∷ [] };
  told = LeastCube (plain 0 ∷ plain 1 ∷ complemented 2 ∷ []);
} ∷ record {
  region = record { event = fall 2; er = 7 ∷ []; sr = 0 ∷ []; qr = 0 ∷ 1 ∷ 2 ∷ [] };
  told = LeastCube (complemented 0 ∷ complemented 1 ∷ plain 2 ∷ []);
} ∷ []

covered : covers_text coded names components
    ≡ codes "next c a b + b c + a c\nset c a b\nreset c a' b'\nmono c+ 1 a b c'\nmono c- 1 a' b' c\n"
unfolding covers_text chosen_sum
covered = rw (decimal_digit 1 (lit< tt)) refl

-- a region without a monotonous cube, and a conflict
no_cube : mono_line signals names 2 (record { event = rise 1; er = 3 ∷ []; sr = []; qr = [] }) (NoCube 4)
    ≡ codes "mono" ∷ codes "z+" ∷ codes "2" ∷ codes "none" ∷ codes "s4" ∷ []
no_cube = rw (decimal_digit 2 (lit< tt)) refl

conflict : conflict_text names (3, 5) ≡ codes "conflict s3 s5\n"
conflict = refl
