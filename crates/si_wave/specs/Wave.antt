-- (text) Events of a netlist's signals as a Value Change Dump: one unit of time for each event.
use Rattle.std.specs.Prelude.{ℕ, ◌+◌, ◌-◌, ◌==◌, ◌||◌, Bool, List, [], ◌∷◌, ◌++◌, nat_lt}
use Rattle.std.specs.Prelude.{if◌then◌else◌}
use Rattle.si_base.specs.declared.graph.Signal.{Signal}
use Rattle.si_base.specs.declared.ids.Event.{Event}
use Rattle.si_base.specs.Bits.{bit}
use Rattle.si_base.specs.Bytes.{first_visible, backslash, dollar}
use Rattle.si_base.specs.Netlist.{Netlist}
use Rattle.si_wave.specs.Dump.{Change, Dump, Moment, Wire, dump_text}

-- how many bytes from `!` to `~` there are
abbrev pub visible_bytes : ℕ
visible_bytes = 94

-- one byte for each of the first 94 signals, and `!` with another byte for the signals after them
abbrev pub wire_code : ℕ → List ℕ
wire_code k = if nat_lt k visible_bytes then (first_visible + k) ∷ []
    else first_visible ∷ (first_visible + (k - visible_bytes)) ∷ []

-- words that begin with `$` are the format's own: a model with such a name is written behind a `\`
abbrev pub escape : List ℕ → List ℕ
escape [] = []
escape (b ∷ bs) = if (b == dollar) || (b == backslash) then backslash ∷ [] else []

abbrev pub scope_name : List ℕ → List ℕ
scope_name model = escape model ++ model

-- ---- what is shown

-- the signals from the k-th on
abbrev pub wires_from : ℕ → List Signal → List Wire
wires_from k [] = []
wires_from k (x ∷ xs) = record { code = wire_code k; name = x.name } ∷ wires_from (k + 1) xs

-- a signal has that value from then on
abbrev pub change_of : ℕ → Bool → Change
change_of sig value = record { value = value; code = wire_code sig }

-- the values of the signals from the k-th on
abbrev pub starts_from : ℕ → List Signal → ℕ → List Change
starts_from k [] values = []
starts_from k (x ∷ xs) values = change_of k (bit values k) ∷ starts_from (k + 1) xs values

abbrev pub moment_of : ℕ → Event → Moment
moment_of time e = record { time = time; changes = change_of e.sig e.up ∷ [] }

-- an event each at this time and those after it, and then a time at which nothing changes
abbrev pub moments_from : ℕ → List Event → List Moment
moments_from time [] = record { time = time; changes = [] } ∷ []
moments_from time (e ∷ es) = moment_of time e ∷ moments_from (time + 1) es

-- the signals of a netlist with their start values at time 0, and event number k at time k
abbrev pub wave_of : Netlist → List Event → Dump
wave_of n events = record {
  scope = scope_name n.model;
  wires = wires_from 0 n.signals;
  starts = starts_from 0 n.signals n.start;
  moments = moments_from 1 events;
}

unfoldable pub wave_text : Netlist → List Event → List ℕ
wave_text n events = dump_text (wave_of n events)
