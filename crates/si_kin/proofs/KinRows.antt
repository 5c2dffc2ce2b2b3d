-- Being kin is an equivalence: rows of states are joined, and gone backwards.
use Rattle.std.proofs.Common.{ℕ, ◌++◌, List, [], ◌∷◌, refl, sym, subst, inl, inr}
use Rattle.si_base.specs.Codes.{CodedGraph}
use Rattle.si_kin.specs.Kin.{AreKin, AreNext, RowTo}

pub kin_self : (c : CodedGraph) (s : ℕ) → AreKin c s s
kin_self c s = ([], refl)

row_on : (c : CodedGraph) (s : ℕ) (row : List ℕ) (t : ℕ) (more : List ℕ) (u : ℕ) → RowTo c s row t
    → RowTo c t more u → RowTo c s (row ++ more) u
row_on c s [] t more u same rest = subst (λ (x : ℕ). RowTo c x more u) (sym same) rest
row_on c s (v ∷ row) t more u (next, later) rest = (next, row_on c v row t more u later rest)

pub kin_on : (c : CodedGraph) (s t u : ℕ) → AreKin c s t → AreKin c t u → AreKin c s u
kin_on c s t u one other = (one.0 ++ other.0, row_on c s one.0 t other.0 u one.1 other.1)

next_back : (c : CodedGraph) (s t : ℕ) → AreNext c s t → AreNext c t s
next_back c s t (e, input, inl step) = (e, input, inr step)
next_back c s t (e, input, inr step) = (e, input, inl step)

row_back : (c : CodedGraph) (s : ℕ) (row : List ℕ) (t : ℕ) → RowTo c s row t → AreKin c t s
row_back c s [] t same = ([], sym same)
row_back c s (v ∷ row) t (next, later) =
    kin_on c t v s (row_back c v row t later) (s ∷ [], (next_back c s v next, refl))

pub kin_back : (c : CodedGraph) (s t : ℕ) → AreKin c s t → AreKin c t s
kin_back c s t kin = row_back c s kin.0 t kin.1

pub kin_next : (c : CodedGraph) (s t : ℕ) → AreNext c s t → AreKin c s t
kin_next c s t next = (t ∷ [], (next, refl))
