-- Names of ports, instances and nets: they can be written, and a `$` tells them apart.
use Rattle.std.proofs.Common.{◌≡◌, ◌≢◌, ℕ, not, true, false, List, [], ◌∷◌, ◌++◌, if◌then◌else◌, codes}
use Rattle.std.proofs.Common.{refl, sym, ap, ◌∙◌, append_assoc, inl, inr}
use Rattle.std.specs.List.{list_all}
use Rattle.std.proofs.lemmas.Bool.{and_from, and_parts, cases_Bool, true≢false}
use Rattle.std.proofs.lemmas.List.Folds.{list_all-append}
use Rattle.si_base.specs.Words.{is_letter, is_name_byte, is_signal_name}
use Rattle.si_genlib.specs.Ports.{Ports, IsPortName}
use Rattle.si_verilog.specs.Symbols.{is_blank}
use Rattle.si_verilog.proofs.NameLemmas.{HasNoBlank, IsWritable, not_blank}
use Rattle.si_structure.specs.StructureText.{feedback, free_net, instance_name, inverter_name, inverted_net}

-- ---- names of name bytes

abbrev pub HasNameBytes : List ℕ → Type 0
HasNameBytes name = list_all is_name_byte name ≡ true

pub port_bytes : (name : List ℕ) → IsPortName name → HasNameBytes name
port_bytes [] is = refl
port_bytes (b ∷ bs) is = is

pub signal_bytes : (name : List ℕ) → is_signal_name name ≡ true → HasNameBytes name
signal_bytes [] is = refl
signal_bytes (b ∷ bs) is =
    let parts = and_parts (is_letter b) (list_all is_name_byte bs) is in
    and_from _ _ (letter b parts.0) parts.1
  where
    letter : (c : ℕ) → is_letter c ≡ true → is_name_byte c ≡ true
    letter c is_one = rw is_one refl

-- ---- names that can be written

bytes_dark : (bytes : List ℕ) → HasNameBytes bytes → HasNoBlank bytes
bytes_dark [] all = refl
bytes_dark (b ∷ bs) all =
    let parts = and_parts (is_name_byte b) (list_all is_name_byte bs) all in
    and_from _ _ (not_blank is_name_byte refl refl refl refl refl b parts.0) (bytes_dark bs parts.1)

pub port_writable : (name : List ℕ) → IsPortName name → IsWritable name
port_writable [] is = absurd (true≢false (sym is))
port_writable (b ∷ bs) is = record { some = λ none. cc; dark = bytes_dark (b ∷ bs) is }

longer_writable : (front back : List ℕ) → IsWritable front → HasNoBlank back → IsWritable (front ++ back)
longer_writable front back writable dark = record {
  some = λ none. writable.some (first front none);
  dark = list_all-append (λ b. not (is_blank b)) front back ∙ and_from _ _ writable.dark dark;
}
  where
    first : (n : List ℕ) → n ++ back ≡ [] → n ≡ []
    first [] none = refl
    first (b ∷ bs) none = cc

pub instance_writable : (name : List ℕ) → IsWritable name → IsWritable (instance_name name)
instance_writable name writable = longer_writable name (codes "$gate") writable refl

pub free_writable : (name : List ℕ) → IsWritable name → IsWritable (free_net name)
free_writable name writable = longer_writable name (codes "$free") writable refl

pub feedback_writable : (ports : Ports) → IsPortName ports.output → IsWritable (feedback ports)
feedback_writable ports is = longer_writable ports.output (codes "$in") (port_writable ports.output is) refl

at_pin : (name pin : List ℕ) → IsWritable name → IsPortName pin → IsWritable (name ++ codes "$" ++ pin)
at_pin name pin writable is = longer_writable (name ++ codes "$") pin
    (longer_writable name (codes "$") writable refl) (bytes_dark pin (port_bytes pin is))

pub inverter_writable : (name pin : List ℕ) → IsWritable name → IsPortName pin → IsWritable (inverter_name name pin)
inverter_writable name pin writable is =
    longer_writable (name ++ codes "$" ++ pin) (codes "$inverter") (at_pin name pin writable is) refl

pub net_writable : (name pin : List ℕ) → IsWritable name → IsPortName pin → IsWritable (inverted_net name pin)
net_writable name pin writable is =
    longer_writable (name ++ codes "$" ++ pin) (codes "$inverted") (at_pin name pin writable is) refl

-- ---- what stands before the first `$`, and behind it

dollar_inside : (front back : List ℕ) → list_all is_name_byte (front ++ 36 ∷ back) ≡ false
dollar_inside [] back = refl
dollar_inside (b ∷ bs) back = elim (cases_Bool (is_name_byte b)) [
  | inl is ↦ rw is (dollar_inside bs back)
  | inr other ↦ rw other refl
]

pub no_dollar : (name front back : List ℕ) → HasNameBytes name → name ≢ front ++ 36 ∷ back
no_dollar name front back bytes same =
    true≢false (sym bytes ∙ ap (list_all is_name_byte) same ∙ dollar_inside front back)

abbrev pub before : List ℕ → List ℕ
before [] = []
before (b ∷ bs) = if is_name_byte b then b ∷ before bs else []

abbrev behind : List ℕ → List ℕ
behind [] = []
behind (b ∷ bs) = if is_name_byte b then behind bs else bs

before_dollar : (name back : List ℕ) → HasNameBytes name → before (name ++ 36 ∷ back) ≡ name
before_dollar [] back bytes = refl
before_dollar (b ∷ bs) back bytes =
    let parts = and_parts (is_name_byte b) (list_all is_name_byte bs) bytes in
    rw parts.0 (ap (λ (t : List ℕ). b ∷ t) (before_dollar bs back parts.1))

behind_dollar : (name back : List ℕ) → HasNameBytes name → behind (name ++ 36 ∷ back) ≡ back
behind_dollar [] back bytes = refl
behind_dollar (b ∷ bs) back bytes =
    let parts = and_parts (is_name_byte b) (list_all is_name_byte bs) bytes in
    rw parts.0 (behind_dollar bs back parts.1)

pub net_parts : (name pin : List ℕ) → inverted_net name pin ≡ name ++ 36 ∷ (pin ++ codes "$inverted")
net_parts name pin = append_assoc (name ++ codes "$") pin (codes "$inverted")
    ∙ append_assoc name (codes "$") (pin ++ codes "$inverted")

-- a net of an inverter tells the signal and the pin
pub net_owner : (name pin : List ℕ) → HasNameBytes name → before (inverted_net name pin) ≡ name
net_owner name pin bytes =
    ap before (net_parts name pin) ∙ before_dollar name (pin ++ codes "$inverted") bytes

pub same_pins : (name a b : List ℕ) → HasNameBytes name → HasNameBytes a → HasNameBytes b
    → inverted_net name a ≡ inverted_net name b → a ≡ b
same_pins name a b bytes one other same =
    let tail : List ℕ = codes "inverted" in
    sym (before_dollar a tail one)
    ∙ ap before (sym (behind_dollar name (a ++ 36 ∷ tail) bytes) ∙ ap behind (sym (net_parts name a) ∙ same
    ∙ net_parts name b) ∙ behind_dollar name (b ++ 36 ∷ tail) bytes)
    ∙ before_dollar b tail other

-- ---- nets that gates of forced signals drive

pub free_owner : (name : List ℕ) → HasNameBytes name → before (free_net name) ≡ name
free_owner name bytes = before_dollar name (codes "free") bytes

pub same_owners : (a b : List ℕ) → HasNameBytes a → HasNameBytes b → free_net a ≡ free_net b → a ≡ b
same_owners a b one other same = sym (free_owner a one) ∙ ap before same ∙ free_owner b other

-- none is the net of an inverter
pub free_or_inverted : (a b pin : List ℕ) → HasNameBytes a → HasNameBytes b → free_net a ≢ inverted_net b pin
free_or_inverted a b pin one other = λ same.
    no_dollar (codes "free") pin (codes "inverted") refl
    (sym (behind_dollar a (codes "free") one) ∙ ap behind (same ∙ net_parts b pin)
    ∙ behind_dollar b (pin ++ codes "$inverted") other)
