-- (text) Parts of a line, each told by one function of its words.
use Rattle.std.specs.Prelude.{List, [], ◌∷◌, ◌++◌, Option, Some, None, Result, Ok, Err}
use Rattle.si_base.specs.declared.fault.TextKind.{TextKind}
use Rattle.si_base.specs.declared.fault.TextKind.TheVariants.{BadLine}

-- nothing where the words haven't the form that is due, else their first fault or what they spell
abbrev pub Part : Type 0 → Type 0
Part A = Option (Result A TextKind)

-- the same part, where another value is made of what it spells
abbrev pub made : {A B : Type 0} → (A → B) → Part A → Part B
made make None = None
made make (Some (Err kind)) = Some (Err kind)
made make (Some (Ok a)) = Some (Ok (make a))

-- a part behind one that has this fault: another form comes first all the same
abbrev pub behind_fault : {A B : Type 0} → TextKind → Part A → Part B
behind_fault kind None = None
behind_fault kind (Some part) = Some (Err kind)

-- a part behind others, which have this fault if they have one
abbrev pub held : {A : Type 0} → Option TextKind → Part A → Part A
held None part = part
held (Some kind) part = behind_fault kind part

-- one part and then another
abbrev pub both : {A B C : Type 0} → (A → B → C) → Part A → Part B → Part C
both make None second = None
both make (Some (Err kind)) second = behind_fault kind second
both make (Some (Ok a)) second = made (make a) second

-- the parts behind one, which are read after what the parts so far spell
abbrev pub then_rest : {A : Type 0} → (List A → Part (List A)) → List A → Part A → Part (List A)
then_rest rest before None = None
then_rest rest before (Some (Err kind)) = behind_fault kind (rest before)
then_rest rest before (Some (Ok a)) = rest (before ++ a ∷ [])

-- each part of a list, where what those before it spell tells which part is due
abbrev pub each_after : {W A : Type 0} → (List A → W → Part A) → List A → List W
    → Part (List A)
each_after read before [] = Some (Ok before)
each_after read before (w ∷ ws) =
    then_rest (λ sofar. each_after read sofar ws) before (read before w)

-- each part of a list
abbrev pub each : {W A : Type 0} → (W → Part A) → List W → Part (List A)
each read ws = each_after (λ before. read) [] ws

-- the fault of a line that should be such a part
abbrev pub part_fault : {A : Type 0} → Part A → Option TextKind
part_fault None = Some BadLine
part_fault (Some (Err kind)) = Some kind
part_fault (Some (Ok a)) = None

-- what a part without fault spells
abbrev pub part_value : {A : Type 0} → A → Part A → A
part_value other None = other
part_value other (Some (Err kind)) = other
part_value other (Some (Ok a)) = a
