-- (law) The laws of pictures, one word each.
use Rattle.std.specs.Prelude.{◌≡◌, ℕ, ◌↔◌, List}
use Rattle.si_base.specs.Graph.{IsGraph}
use Rattle.si_pictures.specs.Grammar.{Statement, IsReadAs}
use Rattle.si_pictures.specs.Picture.{picture, AreShown, IsDotText}
use Rattle.si_pictures.specs.Seen.{graph_of}
use Rattle.si_pictures.specs.declared.seen.Seen.{Seen}

-- a text is that of one graph at most
abbrev pub TextsHaveOneReading : Type 0
TextsHaveOneReading = (text : List ℕ) (xs ys : List Statement) → IsReadAs text xs
    → IsReadAs text ys → xs ≡ ys

-- the text of a picture is read as that picture, and as nothing else
abbrev pub PicturesAreReadBack : Type 0
PicturesAreReadBack = (model : List ℕ) (states : List (List ℕ)) (seen : Seen) (text : List ℕ)
    (conflicts lines : List (ℕ × ℕ)) (xs : List Statement) → IsGraph (graph_of seen)
    → IsDotText model states seen text → AreShown seen conflicts lines
    → IsReadAs text xs ↔ (xs ≡ picture model states seen conflicts lines)

-- what was read, with names for its states, has one text
abbrev pub PictureTextsAreUnique : Type 0
PictureTextsAreUnique = (model : List ℕ) (states : List (List ℕ)) (seen : Seen)
    (x y : List ℕ) → IsDotText model states seen x → IsDotText model states seen y → x ≡ y

abbrev pub PictureTextsExist : Type 0
PictureTextsExist = (model : List ℕ) (states : List (List ℕ)) (seen : Seen)
    → (text : List ℕ) × IsDotText model states seen text
