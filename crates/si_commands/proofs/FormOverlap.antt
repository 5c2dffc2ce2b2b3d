-- No two forms overlap: words ask for one command at most.
use Rattle.std.proofs.Common.{◌≡◌, ℕ, zero, suc, ◌<◌, List, [], ◌∷◌, length, get_or, refl, sym, ap, ap₂, subst}
use Rattle.std.proofs.Common.{◌∙◌, arith, inl, inr, Bool, true, false, ◌&&◌, not, String, Global}
use Rattle.std.proofs.lemmas.Bool.{cases_lt, not-true, and_parts}
use Rattle.std.specs.List.{list_all}
use Rattle.si_commands.specs.Command.{Request, Asks, form_of, tasks}
use Rattle.si_commands.specs.Form.{HasForm, words_of}
use Rattle.si_commands.specs.declared.task.Task.{Task}
use Rattle.si_commands.proofs.CommandTasks.{each_listed, first_task, task_at}
use Rattle.si_commands.proofs.FormMeets.{both_overlap, overlaps, same_given}

-- ---- the test
abbrev none_overlaps : List Task → Bool
none_overlaps [] = true
none_overlaps (task ∷ later) =
    list_all (λ other. not (overlaps (form_of task) (form_of other))) later && none_overlaps later

tasks_apart : none_overlaps tasks ≡ true
tasks_apart = refl

-- ---- what the test shows
pub one_of_all : (p : Task → Bool) (later : List Task) (place : ℕ) → list_all p later ≡ true → place < length later
    → p (get_or later place first_task) ≡ true
one_of_all p [] place all below = absurd (omega (arith, below))
one_of_all p (task ∷ later) zero all below = (and_parts (p task) (list_all p later) all).0
one_of_all p (task ∷ later) (suc place) all below =
    one_of_all p later place (and_parts (p task) (list_all p later) all).1 (omega (arith, below))

apart : (later : List Task) (i j : ℕ) → none_overlaps later ≡ true → i < j → j < length later
    → overlaps (form_of (get_or later i first_task)) (form_of (get_or later j first_task)) ≡ false
apart [] i j none before below = absurd (omega (arith, below))
apart (task ∷ later) i zero none before below = absurd (omega (arith, before))
apart (task ∷ later) zero (suc j) none before below =
    let test : Task → Bool = λ other. not (overlaps (form_of task) (form_of other)) in
    let all = (and_parts (list_all test later) (none_overlaps later) none).0 in
    not-true _ (one_of_all test later j all (omega (arith, below)))
apart (task ∷ later) (suc i) (suc j) none before below =
    let test : Task → Bool = λ other. not (overlaps (form_of task) (form_of other)) in
    let rest = (and_parts (list_all test later) (none_overlaps later) none).1 in
    apart later i j rest (omega (arith, before)) (omega (arith, below))

-- words that ask for a task, by its place in the table
abbrev AsksAt : List (String Global) → ℕ → (files choices : List (List ℕ)) → Type 0
AsksAt words place files choices = HasForm (form_of (task_at place)) (words_of words) files choices

module _ (words : List (String Global)) where
  not_two : (i j : ℕ) (files choices others later : List (List ℕ)) → i < j → j < length tasks
      → AsksAt words i files choices → AsksAt words j others later → ⊥
  not_two i j files choices others later before below one two =
      let overlap = both_overlap (form_of (task_at i)) (form_of (task_at j))
      (words_of words) files choices others later one two in
      let none = apart tasks i j tasks_apart before below in
      cc

  same_place : (i j : ℕ) (files choices others later : List (List ℕ)) → i < length tasks → j < length tasks
      → AsksAt words i files choices → AsksAt words j others later → i ≡ j
  same_place i j files choices others later first second one two = elim (cases_lt i j) [
    | inl before ↦ absurd (not_two i j files choices others later before second one two)
    | inr after ↦ (elim (cases_lt j i) [
      | inl behind ↦ absurd (not_two j i others later files choices behind first two one)
      | inr equal ↦ omega arith
    ])
  ]

  pub one_request : (a b : Request) → Asks words a → Asks words b → a ≡ b
  one_request a b one two =
      let here = each_listed a.task in
      let there = each_listed b.task in
      let HasOne : Task → Type 0 = λ task. HasForm (form_of task) (words_of words) a.files a.choices in
      let HasOther : Task → Type 0 = λ task. HasForm (form_of task) (words_of words) b.files b.choices in
      let places = same_place here.0 there.0 a.files a.choices b.files b.choices here.1 there.1
      (subst HasOne (sym here.2) one) (subst HasOther (sym there.2) two) in
      let same : a.task ≡ b.task = sym here.2 ∙ ap (λ (k : ℕ). task_at k) places ∙ there.2 in
      let given = same_given (form_of b.task) (words_of words) a.files a.choices b.files b.choices
      (subst HasOne same one) two in
      let request : Task → List (List ℕ) → List (List ℕ) → Request =
      λ task files choices. record { task = task; files = files; choices = choices } in
      ap₂ (λ (task : Task) (files : List (List ℕ)). request task files a.choices) same given.0
      ∙ ap (λ (choices : List (List ℕ)). request b.task b.files choices) given.1
