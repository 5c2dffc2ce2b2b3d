-- What a turn of the search for switching states adds to the words, one set beside another.
use Rattle.std.proofs.Common.{◌≡◌, ◌≢◌, ℕ, ◌⊎◌, ◌+◌, ◌-◌, ◌^◌, ◌<◌, ◌≤◌, ◌↔◌, Bool, true, false, List, [], ◌∷◌, length}
use Rattle.std.proofs.Common.{get_or, Contains, Option, refl, sym, ap, subst, ◌∙◌, arith, inl, inr, bit_and, bit_or}
use Rattle.std.proofs.lemmas.Bool.{cases_eq, cases_order, cases_Bool, true≢false}
use Rattle.std.proofs.lemmas.List.{get_or_default}
use Rattle.std.proofs.lemmas.Nat.{and_le_l}
use Rattle.si_base.specs.declared.graph.Edge.{Edge}
use Rattle.si_base.specs.Bits.{bit}
use Rattle.si_base.specs.Codes.{IsDeterministic}
use Rattle.si_base.specs.Graph.{StateGraph, Step, IsNonInput, arc}
use Rattle.si_base.proofs.StepCodes.{step_within}
use Rattle.si_base.proofs.BitFacts.{bit-zero}
use Rattle.si_base.specs.Sets.{IsIn}
use Rattle.si_graph.specs.Loops.Arcs.{AreOut, edge_at, no_edge, IsFirstPlace, IsInto}
use Rattle.si_graph.proofs.ClosureLemmas.{place_in_walk, none_between, later_place}
use Rattle.si_closures.specs.Loops.WordSearch.{column, HasBit, SpreadsAll, WordProgress}
use Rattle.si_closures.proofs.SignalKinds.{input_is_no_other}
use Rattle.si_closures.proofs.WordBits.{in_and, in_or, in_not, in_less, bit_few, no_bit_of_none}
use Rattle.si_closures.proofs.WordSearchLemmas.{in_column, column-at, spreads_both, spreads_none}
use Rattle.si_insert.specs.Accepted.{IsInput}
use Rattle.si_divisor.specs.Loops.SwitchRules.{Belongs, FollowsByRule, BeforeIt, AfterIt, AtExit, WithFirst, WithOther}
use Rattle.si_divisor.specs.Loops.SwitchRules.{SwitchRule, Crossed, Preceding, ByInput, Low, Both, HasDiamond}
use Rattle.si_divisor.specs.Loops.SwitchRules.{IsCrossed}
use Rattle.si_divisor.specs.Loops.SwitchRules.{IsLow}
use Rattle.si_divisor.specs.Loops.ManySwitching.{Grows, GrowsAll, IsTurn, BelongsTo, AllBelong, HaveAll, ExitsBeside}
use Rattle.si_divisor.specs.Loops.ManySwitching.{FollowsBack, Source, Beside, LetsExit, HasExit, FollowsOn}
use Rattle.si_divisor.proofs.SwitchRuleLemmas.{each_on, low_or_high}

-- ---- from one work to the next
pub marked_on : (Q : ℕ → ℕ → Type 0) (old new : WordProgress) → Grows Q old new → (k t : ℕ)
    → IsIn (column k old.words) t → IsIn (column k new.words) t
marked_on Q old new m k t i =
    (in_column k new.words t).1 (m.grows k t ((in_column k old.words t).0 i))

pub belong_on : (g : StateGraph) (highs : List ℕ) (old new : WordProgress) → Grows (BelongsTo g highs) old new
    → AllBelong g highs old → AllBelong g highs new
belong_on g highs old new m all k t has = elim (m.sound k t has) [ inl before ↦ all k t before | inr q ↦ q ]

-- a turn goes on from the work that it began with
pub turn_on : (g : StateGraph) (highs : List ℕ) (sets x : ℕ) (old new : WordProgress)
    → Grows (BelongsTo g highs) old new → IsTurn g highs sets x old → IsTurn g highs sets x new
turn_on g highs sets x old new m turn = record {
  graph = turn.graph;
  deterministic = turn.deterministic;
  count = turn.count;
  size = record { words = m.size ∙ turn.size.words; waiting = m.work_size ∙ turn.size.waiting };
  have = λ k is. m.grows k x (turn.have k is);
  belong = belong_on g highs old new m turn.belong;
}

pub grows_none : (Q : ℕ → ℕ → Type 0) (work : WordProgress) → Grows Q work work
grows_none Q work = spreads_none Q work.words work.work

pub grows_both : (P Q R : ℕ → ℕ → Type 0) (old mid new : WordProgress) → ((k t : ℕ) → P k t → R k t)
    → ((k t : ℕ) → Q k t → R k t) → Grows P old mid → Grows Q mid new → Grows R old new
grows_both P Q R old mid new p q m n =
    spreads_both P Q R old.words old.work mid.words mid.work new.words new.work p q m n

pub grows_as : (P R : ℕ → ℕ → Type 0) (old new : WordProgress) → ((k t : ℕ) → P k t → R k t) → Grows P old new
    → Grows R old new
grows_as P R old new p m = grows_both P R R old new new p (λ k t r. r) m (grows_none R new)

pub spreads_all_as : (P R : ℕ → ℕ → Type 0) (words : List ℕ) (work : List Bool) (new_words : List ℕ)
    (new_work : List Bool) → ((k t : ℕ) → P k t → R k t) → ((k t : ℕ) → R k t → P k t)
    → SpreadsAll P words work new_words new_work → SpreadsAll R words work new_words new_work
spreads_all_as P R words work new_words new_work p r m = record {
  spreads = spreads_both P R R words work new_words new_work new_words new_work p (λ k t x. x) m.spreads
      (spreads_none R new_words new_work);
  all = λ k t has. m.all k t (r k t has);
}

-- ---- in a loop over arcs: what P says of the arcs before a place is there
abbrev pub DoneTo : (ℕ → Edge → ℕ → Type 0) → List Edge → ℕ → WordProgress → Type 0
DoneTo P arcs n work =
    (j : ℕ) (a : Edge) → j < n → get_or arcs j a ≡ a → (k t : ℕ) → P k a t → HasBit work.words k t

pub done_more : (P : ℕ → Edge → ℕ → Type 0) (Q : ℕ → ℕ → Type 0) (arcs : List Edge) (n : ℕ) (a : Edge)
    (old new : WordProgress) → n < length arcs → a ≡ get_or arcs n a
    → ((k t : ℕ) → P k a t → HasBit new.words k t) → Grows Q old new → DoneTo P arcs n old
    → DoneTo P arcs (n + 1) new
done_more P Q arcs n a old new inside at here m done j b early at_j k t p = elim (cases_eq j n) [
  | inl same ↦ (
      let At : ℕ → Type 0 = λ i. get_or arcs i b ≡ b in
      let is : a ≡ b = at ∙ get_or_default arcs n a b inside ∙ subst At same at_j in
      here k t (subst (λ (x : Edge). P k x t) (sym is) p))
  | inr other ↦ m.grows k t (done j b (omega (arith, early, other)) at_j k t p)
]

pub done_all : (P : ℕ → Edge → ℕ → Type 0) (arcs : List Edge) (n : ℕ) (work : WordProgress) → length arcs ≤ n
    → DoneTo P arcs n work → (a : Edge) → Contains arcs a → (k t : ℕ) → P k a t → HasBit work.words k t
done_all P arcs n work all done a (j, inside, at) k t p = done j a (omega (arith, inside, all)) at k t p

-- ---- in a walk over the arcs into s
abbrev pub PassedTo : StateGraph → (ℕ → Edge → ℕ → Type 0) → ℕ → ℕ → WordProgress → Type 0
PassedTo g P s n work = (j : ℕ) → j < n → j < length g.edges → IsInto g.edges s j → (k t : ℕ)
    → P k (edge_at g.edges j) t → HasBit work.words k t

pub walk_goes_on : (g : StateGraph) (P : ℕ → Edge → ℕ → Type 0) (Q : ℕ → ℕ → Type 0) (s n : ℕ) (next : Option ℕ)
    (old new : WordProgress) → IsFirstPlace (IsInto g.edges s) (n + 1) (length g.edges) next
    → ((k t : ℕ) → P k (edge_at g.edges n) t → HasBit new.words k t) → Grows Q old new
    → PassedTo g P s n old → PassedTo g P s (place_in_walk g next) new
walk_goes_on g P Q s n next old new first here m passed j less inside into k t p = elim (cases_order j n) [
  | inl same ↦ here k t (subst (λ (i : ℕ). P k (edge_at g.edges i) t) same p)
  | inr (inl earlier) ↦ m.grows k t (passed j earlier inside into k t p)
  | inr (inr later) ↦ absurd (none_between g [] s (n + 1) next first j (omega arith) less inside into)
]

pub walk_ends : (g : StateGraph) (P : ℕ → Edge → ℕ → Type 0) (s : ℕ) (work : WordProgress)
    → PassedTo g P s (length g.edges) work → (a : Edge) → Contains g.edges a → a.to ≡ s → (k t : ℕ) → P k a t
    → HasBit work.words k t
walk_ends g P s work passed a (j, inside, at) into k t p =
    let is : edge_at g.edges j ≡ a = get_or_default g.edges j no_edge a inside ∙ at in
    passed j inside inside (ap (λ (x : Edge). x.to) is ∙ into) k t (subst (λ (x : Edge). P k x t) (sym is) p)

-- ---- what an arc adds to the set k, in each loop
-- its end, where it leads from a low state to a high one
abbrev pub Crosses : List ℕ → ℕ → ℕ → Edge → ℕ → Type 0
Crosses highs given k a t = (t ≡ a.to) × (bit given k ≡ true) × IsIn (column k highs) a.to
    × IsLow (column k highs) a.from

-- what the event of the other arc leads to past this one
abbrev pub PassesBeside : StateGraph → ℕ → WordProgress → Edge → ℕ → Edge → ℕ → Type 0
PassesBeside g sets old other k a t = (bit sets k ≡ true) × (other.event ≢ a.event)
    × HasBit old.words k a.to × Step g a.to other.event t

-- what follows from its end
abbrev pub ComesBack : StateGraph → List ℕ → ℕ → WordProgress → ℕ → Edge → ℕ → Type 0
ComesBack g highs sets old k a t = (bit sets k ≡ true)
    × FollowsBack g (column k highs) (column k old.words) a t

-- its end, where that follows from its source
abbrev pub GoesOn : StateGraph → List ℕ → ℕ → WordProgress → ℕ → Edge → ℕ → Type 0
GoesOn g highs sets old k a t = (t ≡ a.to) × (bit sets k ≡ true)
    × FollowsOn g (column k highs) (column k old.words) a

-- ---- what follows belongs
module _ (g : StateGraph) (high : List Bool) where
  pub crossed_belongs : (t : ℕ) → IsCrossed g high t → Belongs g high t
  crossed_belongs t r = each_on g.states (SwitchRule g high) [] t (Crossed refl r) (λ set size closed. tt)

  pub source_belongs : (a : Edge) → Contains g.edges a → Belongs g high a.to → IsIn high a.from → Belongs g high a.from
  source_belongs a listed to there = each_on g.states (SwitchRule g high) (a.to ∷ []) a.from
      (Preceding a.to refl (record { e = a.event; step = listed; there = there }))
      (λ set size closed. (to set size closed, tt))

  pub input_belongs : (a : Edge) → Contains g.edges a → IsInput g.signals a.event.sig → Belongs g high a.from
      → Belongs g high a.to
  input_belongs a listed input from = each_on g.states (SwitchRule g high) (a.from ∷ []) a.to
      (ByInput a.from refl (record { e = a.event; step = listed; input = input }))
      (λ set size closed. (from set size closed, tt))

  module _ (marks : List Bool) (all : (t : ℕ) → IsIn marks t → Belongs g high t) where
    pub beside_belongs : (a beside : Edge) (w : ℕ) → Contains g.edges a → Contains g.edges beside
        → Belongs g high a.to → ExitsBeside g high marks a beside w → Belongs g high w
    beside_belongs a beside w listed also to x =
        let second : Step g a.from beside.event beside.to =
        subst (λ k. Step g k beside.event beside.to) x.same also in
        let joins : HasDiamond g a.from a.to beside.to w = record {
          a = a.event;
          c = beside.event;
          diamond = record {
            non_input = x.non_input;
            apart = x.apart;
            first = listed;
            other = second;
            next = x.step;
          };
        } in
        each_on g.states (SwitchRule g high) (beside.to ∷ a.to ∷ []) w
        (Both beside.to a.to refl (record { s = a.from; joins = joins; there = x.begins_high }))
        (λ set size closed. (all beside.to x.there set size closed, (to set size closed, tt)))

    pub exit_belongs : (exit before : Edge) → Contains g.edges exit → Contains g.edges before
        → before.to ≡ exit.from → IsNonInput g.signals exit.event.sig → Belongs g high exit.from
        → LetsExit g high marks exit before → Belongs g high exit.to
    exit_belongs exit before listed also into non_input from x =
        let second : Step g before.from before.event exit.from =
        subst (λ k. Step g before.from before.event k) into also in
        let joins : HasDiamond g before.from x.t exit.from exit.to = record {
          a = exit.event;
          c = before.event;
          diamond = record {
            non_input = non_input;
            apart = x.apart;
            first = x.step;
            other = second;
            next = listed;
          };
        } in
        let at_low : IsLow high before.from → Belongs g high exit.to = λ low.
        each_on g.states (SwitchRule g high) (exit.from ∷ []) exit.to
        (Low exit.from refl (record { s = before.from; t = x.t; joins = joins; low = low }))
        (λ set size closed. (from set size closed, tt)) in
        elim x.may [
          | inl low ↦ at_low low
          | inr there ↦ elim (low_or_high high before.from) [
            | inl low ↦ at_low low
            | inr begins_high ↦ each_on g.states (SwitchRule g high) (exit.from ∷ x.t ∷ []) exit.to
                (Both exit.from x.t refl (record { s = before.from; joins = joins; there = begins_high }))
                (λ set size closed. (from set size closed, (all x.t there set size closed, tt)))
          ]
        ]

    pub follows_on_belongs : (a : Edge) → Contains g.edges a → Belongs g high a.from → FollowsOn g high marks a
        → Belongs g high a.to
    follows_on_belongs a listed from (inl input) = input_belongs a listed input from
    follows_on_belongs a listed from (inr (non_input, x)) =
        exit_belongs a x.before listed x.listed x.into non_input from x.lets

  -- what follows from more marks
  module _ (marks after : List Bool) (on : (t : ℕ) → IsIn marks t → IsIn after t) where
    pub beside_later : (a beside : Edge) (w : ℕ) → ExitsBeside g high marks a beside w
        → ExitsBeside g high after a beside w
    beside_later a beside w x = record {
      begins_high = x.begins_high;
      non_input = x.non_input;
      same = x.same;
      apart = x.apart;
      there = on beside.to x.there;
      step = x.step;
    }

    pub back_later : (a : Edge) (t : ℕ) → FollowsBack g high marks a t → FollowsBack g high after a t
    back_later a t (Source is there) = Source is there
    back_later a t (Beside beside listed exits) = Beside beside listed (beside_later a beside t exits)

    pub on_later : (a : Edge) → FollowsOn g high marks a → FollowsOn g high after a
    on_later a (inl input) = inl input
    on_later a (inr (non_input, x)) = inr (
      non_input,
      record {
        before = x.before;
        listed = x.listed;
        into = x.into;
        lets = record {
          t = x.lets.t;
          apart = x.lets.apart;
          step = x.lets.step;
          may = elim x.lets.may [ inl low ↦ inl low | inr there ↦ inr (on x.lets.t there) ];
        };
      },
    )

-- ---- a turn, by the arcs into x and out of it
pub turn_done : (g : StateGraph) (high marks : List Bool) (x : ℕ) (Done : ℕ → Type 0)
    → ((a : Edge) → Contains g.edges a → a.to ≡ x → (t : ℕ) → FollowsBack g high marks a t → Done t)
    → ((a : Edge) → Contains g.edges a → a.from ≡ x → FollowsOn g high marks a → Done a.to)
    → (t : ℕ) → FollowsByRule g high marks x t → Done t
turn_done g high marks x Done into out t (BeforeIt r) = into (arc t r.e x) r.step refl t (Source refl r.there)
turn_done g high marks x Done into out t (AfterIt r) = out (arc x r.e t) r.step refl (inl r.input)
turn_done g high marks x Done into out t (AtExit r) =
    let d = r.joins.diamond in
    out (arc x r.joins.a t) d.next refl (inr (
      d.non_input,
      record {
        before = arc r.s r.joins.c x;
        listed = d.other;
        into = refl;
        lets = record { t = r.t; apart = d.apart; step = d.first; may = inl r.low };
      },
    ))
turn_done g high marks x Done into out t (WithFirst v there r) =
    let d = r.joins.diamond in
    out (arc x r.joins.a t) d.next refl (inr (
      d.non_input,
      record {
        before = arc r.s r.joins.c x;
        listed = d.other;
        into = refl;
        lets = record { t = v; apart = d.apart; step = d.first; may = inr there };
      },
    ))
turn_done g high marks x Done into out t (WithOther u there r) =
    let d = r.joins.diamond in
    into (arc r.s r.joins.a x) d.first refl t (Beside (arc r.s r.joins.c u) d.other (record {
      begins_high = r.there;
      non_input = d.non_input;
      same = refl;
      apart = d.apart;
      there = there;
      step = d.next;
    }))

-- ---- the sets in which an exit follows
-- by an arc before a place
abbrev pub IsLetBelow : StateGraph → List Bool → List Bool → Edge → ℕ → Type 0
IsLetBelow g high marks exit n = (j : ℕ) × (j < n) × (j < length g.edges) × IsInto g.edges exit.from j
    × LetsExit g high marks exit (edge_at g.edges j)

abbrev pub AreLetBelow : StateGraph → List ℕ → List ℕ → Edge → ℕ → ℕ → Type 0
AreLetBelow g highs words exit n found = (k : ℕ) → k < 128
    → (bit found k ≡ true) ↔ IsLetBelow g (column k highs) (column k words) exit n

module _ (g : StateGraph) (highs words : List ℕ) (exit : Edge) where
  pub none_let : (at : Option ℕ) → IsFirstPlace (IsInto g.edges exit.from) 0 (length g.edges) at
      → AreLetBelow g highs words exit (place_in_walk g at) 0
  none_let at first k few = (
    λ h. absurd (true≢false (sym h ∙ bit-zero k)),
    λ (j, before, inside, into, lets).
        absurd (none_between g [] exit.from 0 at first j (omega arith) before inside into),
  )

  pub one_let : (n found more : ℕ) (next : Option ℕ) → n < length g.edges → IsInto g.edges exit.from n
      → IsFirstPlace (IsInto g.edges exit.from) (n + 1) (length g.edges) next
      → ((k : ℕ) → k < 128 → (bit more k ≡ true)
      ↔ LetsExit g (column k highs) (column k words) exit (edge_at g.edges n))
      → AreLetBelow g highs words exit n found
      → AreLetBelow g highs words exit (place_in_walk g next) (bit_or found more)
  one_let n found more next there here first is before k few = (
    λ h. elim ((in_or found more k).0 h) [
      | inl old ↦ (
          let x = (before k few).0 old in
          (x.0, omega (arith, x.1, later), x.2, x.3, x.4))
      | inr new ↦ (n, later, there, here, (is k few).0 new)
    ],
    λ (j, less, inside, into, lets). (in_or found more k).1 (elim (cases_order j n) [
      | inl same ↦ inr ((is k few).1 (subst At same lets))
      | inr (inl earlier) ↦ inl ((before k few).1 (j, earlier, inside, into, lets))
      | inr (inr past) ↦ absurd (none_between g [] exit.from (n + 1) next first j (omega arith) less inside into)
    ]),
  )
    where
      later : n < place_in_walk g next
      later = later_place g [] exit.from n next there first

      At : ℕ → Type 0
      At i = LetsExit g (column k highs) (column k words) exit (edge_at g.edges i)

  pub all_let : (found : ℕ) → AreLetBelow g highs words exit (length g.edges) found → (k : ℕ) → k < 128
      → (bit found k ≡ true) ↔ HasExit g (column k highs) (column k words) exit
  all_let found are k few = (
    λ h. (
        let x = (are k few).0 h in
        record {
          before = edge_at g.edges x.0;
          listed = (x.0, x.1, get_or_default g.edges x.0 (edge_at g.edges x.0) no_edge x.1);
          into = x.3;
          lets = x.4;
        }),
    λ x. (
        let j = x.listed.0 in
        let is : edge_at g.edges j ≡ x.before = get_or_default g.edges j no_edge x.before x.listed.1 ∙ x.listed.2 in
        (are k few).1 (
          j,
          x.listed.1,
          x.listed.1,
          ap (λ (a : Edge). a.to) is ∙ x.into,
          subst (LetsExit g (column k highs) (column k words) exit) (sym is) x.lets,
        )),
  )

-- ---- the sets that have no state outside
-- of the first n states
pub record AreInsideTo (given : ℕ) (words within : List ℕ) (n kept : ℕ) : Type 0 where
  pub fits : kept < 2 ^ 128
  pub given_too : (k : ℕ) → bit kept k ≡ true → bit given k ≡ true
  pub others : (k : ℕ) → k < 128 → bit given k ≡ true → (bit kept k ≡ true) ⊎ ((s : ℕ) × HasBit words k s
      × (bit (get_or within s 0) k ≡ false))

pub inside_more : (given : ℕ) (words within : List ℕ) (n kept v w : ℕ) → v < 2 ^ 128 → w < 2 ^ 128
    → v ≡ get_or words n 0 → w ≡ get_or within n 0 → AreInsideTo given words within n kept
    → AreInsideTo given words within (n + 1) (bit_and kept (2 ^ 128 - 1 - bit_and v (2 ^ 128 - 1 - w)))
inside_more given words within n kept v w v_fits w_fits v_is w_is before = record {
  fits = omega (arith, and_le_l kept (2 ^ 128 - 1 - out), before.fits);
  given_too = λ k is. before.given_too k ((in_less kept out k before.fits out_fits).0 is).0;
  others = λ k few is. elim (before.others k few is) [
    | inl stays ↦ elim (cases_Bool (bit out k)) [
      | inl strays ↦ (
          let both = (in_less v w k v_fits w_fits).0 strays in
          inr (n, ap (λ u. bit u k) (sym v_is) ∙ both.0, ap (λ u. bit u k) (sym w_is) ∙ both.1))
      | inr none ↦ inl ((in_less kept out k before.fits out_fits).1 (stays, none))
    ]
    | inr omits ↦ inr omits
  ];
}
  where
    out : ℕ
    out = bit_and v (2 ^ 128 - 1 - w)

    out_fits : out < 2 ^ 128
    out_fits = omega (arith, and_le_l v (2 ^ 128 - 1 - w), v_fits)

-- ---- single words
pub in_word : (words : List ℕ) (s x k : ℕ) → x ≡ get_or words s 0 → (bit x k ≡ true) ↔ IsIn (column k words) s
in_word words s x k is = (
  λ h. (in_column k words s).1 (ap (λ w. bit w k) (sym is) ∙ h),
  λ there. ap (λ w. bit w k) is ∙ (in_column k words s).0 there,
)

out_of_word : (words : List ℕ) (s x k : ℕ) → x ≡ get_or words s 0 → (bit x k ≡ false) ↔ IsLow (column k words) s
out_of_word words s x k is = (
  λ h. column-at k words s ∙ ap (λ w. bit w k) (sym is) ∙ h,
  λ low. ap (λ w. bit w k) is ∙ sym (column-at k words s) ∙ low,
)

-- those of the sets that have s
pub in_sets : (words : List ℕ) (sets s x k : ℕ) → x ≡ get_or words s 0
    → (bit (bit_and sets x) k ≡ true) ↔ ((bit sets k ≡ true) × IsIn (column k words) s)
in_sets words sets s x k is = (
  λ h. (let both = (in_and sets x k).0 h in (both.0, (in_word words s x k is).0 both.1)),
  λ (has, there). (in_and sets x k).1 (has, (in_word words s x k is).1 there),
)

pub crossing_bits : (highs : List ℕ) (given from to x y : ℕ) → given < 2 ^ 128 → y < 2 ^ 128 → x ≡ get_or highs to 0
    → y ≡ get_or highs from 0 → (k : ℕ) → (bit (bit_and (bit_and given x) (2 ^ 128 - 1 - y)) k ≡ true)
    ↔ ((bit given k ≡ true) × IsIn (column k highs) to × IsLow (column k highs) from)
crossing_bits highs given from to x y given_fits y_fits x_is y_is k = (
  λ h. (
      let both = less.0 h in
      let first = (in_sets highs given to x k x_is).0 both.0 in
      (first.0, first.1, (out_of_word highs from y k y_is).0 both.1)),
  λ (has, there, low).
      less.1 ((in_sets highs given to x k x_is).1 (has, there), (out_of_word highs from y k y_is).1 low),
)
  where
    less : (bit (bit_and (bit_and given x) (2 ^ 128 - 1 - y)) k ≡ true)
        ↔ ((bit (bit_and given x) k ≡ true) × (bit y k ≡ false))
    less = in_less (bit_and given x) y k (omega (arith, and_le_l given x, given_fits)) y_fits

pub let_by_bits : (g : StateGraph) (highs words : List ℕ) (exit before : Edge) (t x y : ℕ) → x < 2 ^ 128
    → x ≡ get_or highs before.from 0 → y ≡ get_or words t 0 → IsDeterministic g → Step g before.from exit.event t
    → exit.event ≢ before.event → (k : ℕ) → k < 128
    → (bit (bit_or (2 ^ 128 - 1 - x) y) k ≡ true) ↔ LetsExit g (column k highs) (column k words) exit before
let_by_bits g highs words exit before t x y fits x_is y_is one step apart k few = (
  λ h. record {
    t = t;
    apart = apart;
    step = step;
    may = elim ((in_or (2 ^ 128 - 1 - x) y k).0 h) [
      | inl low ↦ inl ((out_of_word highs before.from x k x_is).0 ((in_not x k fits few).0 low))
      | inr there ↦ inr ((in_word words t y k y_is).0 there)
    ];
  },
  λ lets. (in_or (2 ^ 128 - 1 - x) y k).1 (elim lets.may [
    | inl low ↦ inl ((in_not x k fits few).1 ((out_of_word highs before.from x k x_is).1 low))
    | inr there ↦ inr ((in_word words t y k y_is).1 (subst (IsIn (column k words))
        (one before.from exit.event lets.t t lets.step step) there))
  ]),
)

-- ---- the states to which an arc leads, if that is new
pub reach_more : (R : ℕ → Type 0) (words : List ℕ) (work : List Bool) (new_words : List ℕ) (new_work : List Bool)
    (to sets reached v : ℕ) → v ≡ get_or words to 0
    → SpreadsAll (λ k u. (u ≡ to) × (bit reached k ≡ true)) words work new_words new_work
    → ((k : ℕ) → bit reached k ≡ true → (bit sets k ≡ true) × R k)
    → ((k : ℕ) → bit sets k ≡ true → R k → bit v k ≡ false → bit reached k ≡ true)
    → SpreadsAll (λ k t. (t ≡ to) × (bit sets k ≡ true) × R k) words work new_words new_work
reach_more R words work new_words new_work to sets reached v v_is m sound complete = record {
  spreads = spreads_both (λ k u. (u ≡ to) × (bit reached k ≡ true)) Q Q words work new_words new_work new_words new_work
      (λ k t p. (let both = sound k p.1 in (p.0, both.0, both.1))) (λ k t q. q) m.spreads
      (spreads_none Q new_words new_work);
  all = λ k t q. elim (cases_Bool (bit v k)) [
    | inl there ↦ m.spreads.grows k t (subst (HasBit words k) (sym q.0) (ap (λ (u : ℕ). bit u k) (sym v_is) ∙ there))
    | inr out ↦ m.all k t (q.0, complete k q.1 q.2 out)
  ];
}
  where
    Q : ℕ → ℕ → Type 0
    Q k t = (t ≡ to) × (bit sets k ≡ true) × R k

module _ (g : StateGraph) (highs : List ℕ) (old : WordProgress) (a : Edge) (sets more v : ℕ) (sets_fit : sets < 2 ^ 128)
    (v_is : v ≡ get_or old.words a.to 0)
    (more_bits : (k : ℕ) → (bit more k ≡ true) ↔ ((bit sets k ≡ true) × (bit v k ≡ false))) where
  abbrev Follows : ℕ → Type 0
  Follows k = FollowsOn g (column k highs) (column k old.words) a

  pub nothing_more : more ≡ 0 → SpreadsAll (λ k t. (t ≡ a.to) × (bit sets k ≡ true) × Follows k) old.words
      old.work old.words old.work
  nothing_more none = record {
    spreads = spreads_none (λ k t. (t ≡ a.to) × (bit sets k ≡ true) × Follows k) old.words old.work;
    all = λ k t q. elim (cases_Bool (bit v k)) [
      | inl there ↦ subst (HasBit old.words k) (sym q.0) (ap (λ (u : ℕ). bit u k) (sym v_is) ∙ there)
      | inr out ↦ absurd (no_bit_of_none more k none ((more_bits k).1 (q.1, out)))
    ];
  }

  pub by_input : (words : List ℕ) (work : List Bool) → IsInput g.signals a.event.sig
      → SpreadsAll (λ k u. (u ≡ a.to) × (bit more k ≡ true)) old.words old.work words work
      → SpreadsAll (λ k t. (t ≡ a.to) × (bit sets k ≡ true) × Follows k) old.words old.work words work
  by_input words work input m =
      reach_more Follows old.words old.work words work a.to sets more v v_is m
      (λ k h. (((more_bits k).0 h).0, inl input)) (λ k has follows out. (more_bits k).1 (has, out))

  pub by_exit : (exits : ℕ) (words : List ℕ) (work : List Bool) → IsNonInput g.signals a.event.sig
      → ((k : ℕ) → k < 128 → (bit exits k ≡ true) ↔ HasExit g (column k highs) (column k old.words) a)
      → SpreadsAll (λ k u. (u ≡ a.to) × (bit (bit_and more exits) k ≡ true)) old.words old.work words work
      → SpreadsAll (λ k t. (t ≡ a.to) × (bit sets k ≡ true) × Follows k) old.words old.work words work
  by_exit exits words work non_input tells m =
      reach_more Follows old.words old.work words work a.to sets (bit_and more exits) v v_is m sound complete
    where
      sound : (k : ℕ) → bit (bit_and more exits) k ≡ true → (bit sets k ≡ true) × Follows k
      sound k h =
          let both = (in_and more exits k).0 h in
          let has = ((more_bits k).0 both.0).0 in
          (has, inr (non_input, (tells k (bit_few sets k sets_fit has)).0 both.1))

      exit_of : (k : ℕ) → Follows k → HasExit g (column k highs) (column k old.words) a
      exit_of k (inl input) = absurd (input_is_no_other g.signals a.event.sig input non_input)
      exit_of k (inr (driven, exit)) = exit

      complete : (k : ℕ) → bit sets k ≡ true → Follows k → bit v k ≡ false → bit (bit_and more exits) k ≡ true
      complete k has follows out = (in_and more exits k).1
          ((more_bits k).1 (has, out), (tells k (bit_few sets k sets_fit has)).1 (exit_of k follows))

-- ---- arcs out of a state
module _ (g : StateGraph) (s : ℕ) (arcs : List Edge) (n : ℕ) (a : Edge) (out : AreOut g s arcs)
    (inside : n < length arcs) (at : a ≡ get_or arcs n a) where
  pub out_arc : Contains g.edges a × (a.from ≡ s)
  out_arc = (out.exactly a).0 (n, inside, sym at)

  pub out_within : (a.from < g.states) × (a.event.sig < length g.signals) × (a.to < g.states)
  out_within = step_within g a.from a.event a.to out.graph out_arc.0

-- ---- one arc more out of x
module _ (g : StateGraph) (highs : List ℕ) (old mid : WordProgress) (arcs : List Edge) (n : ℕ) (a : Edge)
    (belong : AllBelong g highs old) (grown : Grows (BelongsTo g highs) old mid) where
  mid_belong : AllBelong g highs mid
  mid_belong = belong_on g highs old mid grown belong

  marks_belong : (k t : ℕ) → IsIn (column k mid.words) t → Belongs g (column k highs) t
  marks_belong k t i = mid_belong k t ((in_column k mid.words t).0 i)

  module _ (x sets : ℕ) (out : AreOut g x arcs) (inside : n < length arcs) (at : a ≡ get_or arcs n a)
      (have : HaveAll sets old x) (new : WordProgress)
      (m : GrowsAll (λ k t. (t ≡ a.to) × (bit sets k ≡ true)
      × FollowsOn g (column k highs) (column k mid.words) a) mid new) where
    goes_on_belongs : (k t : ℕ) → (t ≡ a.to) × (bit sets k ≡ true)
        × FollowsOn g (column k highs) (column k mid.words) a → BelongsTo g highs k t
    goes_on_belongs k t q =
        let both = out_arc g x arcs n a out inside at in
        let from = subst (Belongs g (column k highs)) (sym both.1) (belong k x (have k q.1)) in
        subst (Belongs g (column k highs)) (sym q.0)
        (follows_on_belongs g (column k highs) (column k mid.words) (marks_belong k) a both.0 from q.2)

    pub out_grows : Grows (BelongsTo g highs) old new
    out_grows = grows_both (BelongsTo g highs) (λ k t. (t ≡ a.to) × (bit sets k ≡ true)
        × FollowsOn g (column k highs) (column k mid.words) a) (BelongsTo g highs) old mid new (λ k t b. b)
        goes_on_belongs grown m.spreads

    pub out_done : DoneTo (GoesOn g highs sets old) arcs n mid → DoneTo (GoesOn g highs sets old) arcs (n + 1) new
    out_done done = done_more (GoesOn g highs sets old) (λ k t. (t ≡ a.to) × (bit sets k ≡ true)
        × FollowsOn g (column k highs) (column k mid.words) a) arcs n a mid new inside at
        (λ k t q. m.all k t (
          q.0,
          q.1,
          on_later g (column k highs) (column k old.words)
              (column k mid.words) (marked_on (BelongsTo g highs) old mid grown k) a q.2,
        )) m.spreads done

  -- one arc more beside another
  module _ (other : Edge) (sets high : ℕ) (out : AreOut g other.from arcs) (inside : n < length arcs)
      (at : a ≡ get_or arcs n a) (listed : Contains g.edges other) (non_input : IsNonInput g.signals other.event.sig)
      (high_bits : (k : ℕ) → bit high k ≡ true → (bit sets k ≡ true) × IsIn (column k highs) other.from)
      (have : HaveAll sets old other.to) (new : WordProgress)
      (m : GrowsAll (λ k t. (bit high k ≡ true) × (other.event ≢ a.event) × HasBit mid.words k a.to
      × Step g a.to other.event t) mid new) where
    beside_is : (k t : ℕ) → (bit high k ≡ true) × (other.event ≢ a.event) × HasBit mid.words k a.to
        × Step g a.to other.event t → BelongsTo g highs k t
    beside_is k t q =
        let both = out_arc g other.from arcs n a out inside at in
        let bits = high_bits k q.0 in
        beside_belongs g (column k highs) (column k mid.words) (marks_belong k) other a t listed both.0
        (belong k other.to (have k bits.0)) (record {
          begins_high = bits.1;
          non_input = non_input;
          same = both.1;
          apart = q.1;
          there = (in_column k mid.words a.to).1 q.2;
          step = q.3;
        })

    pub beside_grows : Grows (BelongsTo g highs) old new
    beside_grows = grows_both (BelongsTo g highs) (λ k t. (bit high k ≡ true) × (other.event ≢ a.event)
        × HasBit mid.words k a.to × Step g a.to other.event t) (BelongsTo g highs) old mid new (λ k t b. b)
        beside_is grown m.spreads

    pub beside_done : DoneTo (PassesBeside g high old other) arcs n mid
        → DoneTo (PassesBeside g high old other) arcs (n + 1) new
    beside_done done = done_more (PassesBeside g high old other) (λ k t. (bit high k ≡ true)
        × (other.event ≢ a.event) × HasBit mid.words k a.to × Step g a.to other.event t) arcs n a mid new inside
        at (λ k t q. m.all k t (q.0, q.1, grown.grows k a.to q.2, q.3)) m.spreads done

-- ---- back along an arc
pub source_grows : (g : StateGraph) (highs : List ℕ) (sets : ℕ) (a : Edge) (old new : WordProgress) → Contains g.edges a
    → HaveAll sets old a.to → AllBelong g highs old
    → GrowsAll (λ k t. (t ≡ a.from) × (bit sets k ≡ true) × IsIn (column k highs) a.from) old new
    → Grows (BelongsTo g highs) old new
source_grows g highs sets a old new listed have belong m =
    grows_as (λ k t. (t ≡ a.from) × (bit sets k ≡ true) × IsIn (column k highs) a.from) (BelongsTo g highs) old new
    (λ k t q. subst (Belongs g (column k highs)) (sym q.0)
    (source_belongs g (column k highs) a listed (belong k a.to (have k q.1)) q.2)) m.spreads

pub back_done : (g : StateGraph) (highs : List ℕ) (sets : ℕ) (a : Edge) (old mid new : WordProgress)
    → GrowsAll (λ k t. (t ≡ a.from) × (bit sets k ≡ true) × IsIn (column k highs) a.from) old mid
    → Grows (BelongsTo g highs) mid new
    → ((k t : ℕ) (beside : Edge) → bit sets k ≡ true → Contains g.edges beside
    → ExitsBeside g (column k highs) (column k mid.words) a beside t → HasBit new.words k t)
    → (k t : ℕ) → bit sets k ≡ true → FollowsBack g (column k highs) (column k old.words) a t
    → HasBit new.words k t
back_done g highs sets a old mid new first grows done k t has (Source is there) =
    grows.grows k t (first.all k t (is, has, there))
back_done g highs sets a old mid new first grows done k t has (Beside beside listed exits) =
    done k t beside has listed (beside_later g (column k highs) (column k old.words) (column k mid.words)
    (marked_on (λ j u. (u ≡ a.from) × (bit sets j ≡ true) × IsIn (column j highs) a.from) old mid first.spreads k)
    a beside t exits)
