use Rattle.std.proofs.Common.{◌≡◌, ℕ, ◌==◌, List, Some, Bool, true, false, length, sym, ap, subst, ◌∙◌, refl}
use Rattle.std.proofs.Common.{if◌then◌else◌, nat_lt}
use Rattle.std.specs.List.{list_any}
use Rattle.si_io.specs.Outside.{answer_of, one_more}
use Rattle.si_io.specs.Memory.{ShelfState, Loading, Exceeds, Gives, content_of, loading, loading_of, Answers}
use Rattle.si_io.specs.Memory.{shelf_after, faults_after}
use Rattle.si_io.proofs.memory.MemShelfShelf.load.Goals as goal

-- a call that isn't listed, on a name that is there
plain_call : (shelf : ShelfState) (name : List ℕ) (limit : ℕ) (content : List ℕ)
    → list_any (λ call. call == shelf.calls) shelf.fails ≡ false → content_of shelf.files name ≡ Some content
    → loading shelf name limit ≡ loading_of (Some content) limit
plain_call shelf name limit content free there = rw (free, there) refl

-- it counts no fault
no_fault : (long : Bool) (content : List ℕ) (faults : ℕ)
    → faults_after (if long then Exceeds (length content) else Gives content) faults ≡ faults
no_fault true content faults = refl
no_fault false content faults = refl

plain_after : (shelf : ShelfState) (name : List ℕ) (limit : ℕ) (content : List ℕ)
    → list_any (λ call. call == shelf.calls) shelf.fails ≡ false → content_of shelf.files name ≡ Some content
    → (let after : ShelfState = record {
      files = shelf.files;
      fails = shelf.fails;
      calls = one_more shelf.calls;
      faults = shelf.faults;
    } in after) ≡ shelf_after shelf name limit
plain_after shelf name limit content free there =
    let with_faults : ℕ → ShelfState =
    λ faults. record { files = shelf.files; fails = shelf.fails; calls = one_more shelf.calls; faults = faults } in
    sym (ap with_faults (ap (λ (l : Loading). faults_after l shelf.faults)
    (plain_call shelf name limit content free there)
    ∙ no_fault (nat_lt limit (length content)) content shelf.faults))

pub returns-clause-answers : goal.returns-clause-answers
returns-clause-answers c =
    let P : Loading → Type 0 = λ l. Answers l (answer_of c.copied.result) in
    let there = rw (c.deref-2.ensures.value, c.as_bytes.ensures.value) at (sym c.in-Some.ensures) in
    let free = rw c.deref.ensures.value at (sym c.is_listed.ensures ∙ c.if-is_listed.false) in
    rw (← c.self.view_is)
    (subst P
    (sym (plain_call (record {
      files = c.self.inside.files.items;
      fails = c.self.inside.fails.items;
      calls = c.self.inside.calls;
      faults = c.self.inside.faults;
    }) _ c.args.limit c.in-Some.content.now free there))
    c.copied.ensures)

pub returns-clause-after : goal.returns-clause-after
returns-clause-after c =
    let there = rw (c.deref-2.ensures.value, c.as_bytes.ensures.value) at (sym c.in-Some.ensures) in
    let free = rw c.deref.ensures.value at (sym c.is_listed.ensures ∙ c.if-is_listed.false) in
    rw (← c.self.view_is, c.saturating_add-self-inside.ensures)
    (plain_after (record {
      files = c.self.inside.files.items;
      fails = c.self.inside.fails.items;
      calls = c.self.inside.calls;
      faults = c.self.inside.faults;
    }) _ c.args.limit c.in-Some.content.now free there)

pub returns-clause-loaded : goal.returns-clause-loaded
returns-clause-loaded c = (c.args.limit, returns-clause-after c, returns-clause-answers c)
