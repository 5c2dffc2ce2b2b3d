-- (command) The theorem of systems: what is so where `works` is done, by the bytes of its files
-- alone.
use Rattle.std.specs.Prelude.{◌≡◌, ℕ, ◌≤◌, ◌%◌, List, [], ◌∷◌, Option, codes, length}
use Rattle.si_io.specs.Outside.{IsContent}
use Rattle.si_works.specs.System.{AreRight, two_by_two}

-- the words ask whether the netlists of these files are right together: graphs, each with its
-- netlist behind it, two at least and 64 at most
abbrev pub AskForSystem : (files words : List (List ℕ)) → Type 0
AskForSystem (graph ∷ netlist ∷ other ∷ its ∷ more) words =
    (words ≡ codes "works" ∷ graph ∷ netlist ∷ other ∷ its ∷ more) × (length more ≤ 124)
    × (length more % 2 ≡ 0)
AskForSystem files words = ⊥

-- these are the bytes of the files, where they are told
abbrev pub AreContents : (content : List ℕ → Option (List ℕ)) → (files texts : List (List ℕ))
    → Type 0
AreContents content [] [] = Unit {0}
AreContents content (file ∷ files) (text ∷ texts) =
    IsContent (content file) text × AreContents content files texts
AreContents content files texts = ⊥

-- and the graphs and netlists that they give are right together
pub record AreRightFiles (content : List ℕ → Option (List ℕ)) (files : List (List ℕ)) : Type 0 where
  pub texts : List (List ℕ)
  pub read : AreContents content files texts
  pub right : AreRight (two_by_two texts)
