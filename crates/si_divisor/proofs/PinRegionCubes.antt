-- The least monotonous cubes of the components of a signal's events, region after region.
use Rattle.std.proofs.Common.{◌≡◌, ℕ, ◌+◌, ◌<◌, List, [], ◌∷◌, ◌++◌, length, take, get_or, Contains, sym, ap, subst}
use Rattle.std.proofs.Common.{◌∙◌, inl, inr}
use Rattle.std.proofs.lemmas.List.{take_more}
use Rattle.std.proofs.lemmas.List.Elements.{Contains-append_left, Contains-push, Contains-push_cases}
use Rattle.si_graph.proofs.ListMembers.{Contains-nil}
use Rattle.si_base.specs.Codes.{CodedGraph}
use Rattle.si_base.specs.declared.ids.Literal.{Literal}
use Rattle.si_regions.specs.declared.regions.Region.{Region}
use Rattle.si_regions.specs.Regions.{IsRegion, AreRegions}
use Rattle.si_regions.proofs.UniqueRegions.{one_region}
use Rattle.si_cover.specs.Mono.{IsLeastMono}
use Rattle.si_cover.proofs.MonoLemmas.{least_monos_have_same_literals}
use Rattle.si_divisor.specs.Divisors.{IsCubeOf}
use Rattle.si_divisor.specs.Loops.PinTests.{AreCubesFor, AreCubesOf}

-- ---- the loop over the regions
pub none_yet : (c : CodedGraph) (z : ℕ) → AreCubesFor c z [] []
none_yet c z = record {
  each = λ cube there. absurd (Contains-nil cube there);
  all = λ r there. absurd (Contains-nil r there);
}

module _ (c : CodedGraph) (z : ℕ) (items : List Region) (i : ℕ) (r : Region) (inside : i < length items)
    (at : r ≡ get_or items i r) (cubes : List (List Literal)) (before : AreCubesFor c z (take i items) cubes) where
  more : take (i + 1) items ≡ take i items ++ r ∷ []
  more = take_more items i r inside ∙ ap (λ (x : Region). take i items ++ x ∷ []) (sym at)

  -- for each region so far, given what holds of the others and of this
  by_place : (P : Region → Type 0) → ((x : Region) → Contains (take i items) x → P x) → P r
      → (x : Region) → Contains (take (i + 1) items) x → P x
  by_place P others here x there =
      elim (Contains-push_cases (take i items) r x (subst (λ (xs : List Region). Contains xs x) more there)) [
        | inl earlier ↦ others x earlier
        | inr same ↦ subst P same here
      ]

  pub with_cube : IsRegion c r → (cube : List Literal) (new : List (List Literal)) → r.event.sig ≡ z
      → IsLeastMono c r.er r.qr cube → new ≡ cubes ++ cube ∷ [] → AreCubesFor c z (take (i + 1) items) new
  with_cube is cube new event least put = subst (AreCubesFor c z (take (i + 1) items)) (sym put) (record {
    each = λ x there. elim (Contains-push_cases cubes cube x there) [
      | inl earlier ↦ before.each x earlier
      | inr same ↦ subst (IsCubeOf c z) same
          (record { region = r; is_region = is; event = event; least = least })
    ];
    all = by_place (λ (x : Region). x.event.sig ≡ z → (k : List Literal) → IsLeastMono c x.er x.qr k
        → (other : List Literal) × Contains (cubes ++ cube ∷ []) other × IsLeastMono c x.er x.qr other)
        (λ x there sig k one. (let (other, among, is_least) = before.all x there sig k one in
        (other, Contains-append_left cubes (cube ∷ []) other among, is_least)))
        (λ sig k one. (cube, Contains-push cubes cube, least));
  })

  pub without_cube : (r.event.sig ≡ z → (cube : List Literal) → IsLeastMono c r.er r.qr cube → ⊥)
      → AreCubesFor c z (take (i + 1) items) cubes
  without_cube none = record {
    each = before.each;
    all = by_place (λ (x : Region). x.event.sig ≡ z → (k : List Literal) → IsLeastMono c x.er x.qr k
        → (other : List Literal) × Contains cubes other × IsLeastMono c x.er x.qr other)
        before.all (λ sig k one. absurd (none sig k one));
  }

-- all regions were gone through
pub all_found : (c : CodedGraph) (z : ℕ) (regions : List Region) (cubes : List (List Literal)) → AreRegions c regions
    → AreCubesFor c z regions cubes → AreCubesOf c z cubes
all_found c z regions cubes are found = record {
  each = found.each;
  all = λ cube is.
      let r = is.region in
      let (s, in_r) = is.is_region.excited.some in
      let (x, there, event, in_x) = are.all s r.event (is.is_region.excited.members s in_r) in
      let same : x ≡ r = one_region c x r s (are.each x there) is.is_region event in_x in_r in
      let (other, among, least) = found.all r (subst (Contains regions) same there) is.event cube is.least in
      (other, among, λ l. (least_monos_have_same_literals c r.er r.qr cube other s in_r is.least least l).0);
}
