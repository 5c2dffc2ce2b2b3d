-- How a run ends, by what the words ask for and what the files come to.
use Rattle.std.proofs.Common.{◌≡◌, ◌≢◌, ℕ, List, [], ◌∷◌, ◌++◌, Ok, Err, refl, sym, ap, subst}
use Rattle.std.proofs.Common.{◌∙◌, arith, ◌⊎◌, inl, inr, String, Global}
use Rattle.si_io.specs.Outside.{Rose, Appends}
use Rattle.si_io.specs.declared.sink.PutFault.TheVariants.{NoMemory as NoRoom}
use Rattle.si_commands.specs.Command.{Request, Asks, AsksNothing, NamesNoFile}
use Rattle.si_refusals.specs.Ending.{Ending, NoMemory, Usage, WriteFault, Answered, IsRefusal, status_of}
use Rattle.si_refusals.specs.Ending.{ending_of}
use Rattle.si_tool.specs.Laws.{ShowsCause}
use Rattle.si_tool.specs.Loads.{Contents, Counts, AreTold, AreLoaded, LoadsOf, StopsLoading, loads, loads_well}
use Rattle.si_tool.specs.Loads.{no_faults}
use Rattle.si_tool.specs.Meaning.{LoadStage, ComesTo, IsDetermined, MayStopCommand, WordsComeTo}
use Rattle.si_refusals.specs.Refusal.{TextRefusal, Answer, Output, FileRefused, TextRefused}
use Rattle.si_refusals.specs.Refusal.{ReadFault, TooLong}
use Rattle.si_refusals.specs.Refusal.{Improper, answer_status, text_status}
use Rattle.si_tool.specs.Run.{SinkChange, IsKept, IsCutShort, IsDone, MayEnd, Ends, PutsDue, Deserve}
use Rattle.si_tool.specs.Run.{IsUntaken, PutsOneLine, TellsOnce, LoadsNamed, NoneLoaded, FirstLoaded}
use Rattle.si_tool.specs.Run.{ReadRose, IsDeservedUnlessFault, AsDeserved, WithoutMemory, ByReadFault, ByWriteFault}
use Rattle.si_refusals.specs.declared.refusals.Refusal.{Refusal}
use Rattle.si_refusals.specs.declared.refusals.Refusal.TheVariants as made
use Rattle.si_refusals.specs.declared.status.Status.{Status}
use Rattle.si_refusals.specs.declared.status.Status.TheVariants as status
use Rattle.si_tool.proofs.MeaningAnswers.{command_one, command_or_fault, IsReadFault}
use Rattle.si_tool.proofs.LoadLemmas.{read_rose, long_without_fault}
use Rattle.si_commands.proofs.FormOverlap.{one_request}
use Rattle.si_tool.proofs.RunSinks.{nothing_put}

-- ---- what a run was told comes to one answer, faults of loads aside
comes_as : (words : List (String Global)) (content : Contents) (before now : Counts) (a b : Answer)
    (come : WordsComeTo words (loads content before now) a) → Deserve words content b
    → (a ≡ b) ⊎ IsReadFault before now come.asked.files a
comes_as words content before now a b come deserve =
    let same = one_request words deserve.asked come.asked deserve.asks come.asks in
    let told = subst (λ (k : Request). AreTold content k.files) same deserve.told in
    let determined = subst (λ (k : Request). IsDetermined k.task k.choices) same deserve.determined in
    let there = subst (λ (k : Request). ComesTo (loads_well content) k b) same deserve.comes in
    elim (command_or_fault content before now come.asked a come.comes) [
      | inl here ↦ inl (command_one content come.asked a b determined told here there)
      | inr fault ↦ inr fault
    ]

-- what is deserved comes, unless memory runs out or a fault comes
pub complete : (words : List (String Global)) (content : Contents) (before now : Counts) (out err : SinkChange)
    (result : Status) → Ends words (loads content before now) out err result → (answer : Answer)
    → Deserve words content answer
    → IsDeservedUnlessFault (answer_status answer) result (ReadRose words before now) (Rose out.before out.now)
complete words content before now out err result ends answer deserve = by ends.ending ends.may ends.puts.status_is
  where
    by : (e : Ending) → MayEnd words (loads content before now) out e → result ≡ status_of e
        → IsDeservedUnlessFault (answer_status answer) result (ReadRose words before now) (Rose out.before out.now)
    by NoMemory may is = WithoutMemory is
    by Usage may is = absurd (may.0 deserve.asked deserve.asks)
    by WriteFault may is = ByWriteFault is may.rose
    by (Answered a) may is = elim (comes_as words content before now a answer may.0 deserve) [
      | inl same ↦ AsDeserved (is ∙ ap answer_status same)
      | inr fault ↦ ByReadFault (is ∙ ap answer_status fault.is) (record {
        asked = may.0.asked;
        asks = may.0.asks;
        rose = (fault.named.0, fault.file, fault.named.1, fault.named.2, fault.rose);
      })
    ]

-- ---- what a status shows

-- no refusal of texts has the status of another ending
pub record IsOfTexts (s : Status) : Type 0 where
  pub not_done : s ≢ status.Done
  pub not_usage : s ≢ status.Usage
  pub not_read : s ≢ status.ReadFault
  pub not_write : s ≢ status.WriteFault
  pub not_long : s ≢ status.TooLong
  pub not_memory : s ≢ status.NoMemory

of_texts : (r : TextRefusal) → IsOfTexts (text_status r)
of_texts (Improper breach) = record {
  not_done = λ e. cc;
  not_usage = λ e. cc;
  not_read = λ e. cc;
  not_write = λ e. cc;
  not_long = λ e. cc;
  not_memory = λ e. cc;
}
of_texts r = record {
  not_done = λ e. cc;
  not_usage = λ e. cc;
  not_read = λ e. cc;
  not_write = λ e. cc;
  not_long = λ e. cc;
  not_memory = λ e. cc;
}

module _ (words : List (String Global)) (loading : LoadStage) (out : SinkChange) where
  pub by_done : (e : Ending) → MayEnd words loading out e → status_of e ≡ status.Done → IsDone words loading out
  by_done (Answered (Output text)) may is = record { output = text; comes = may.0; written = may.1.0; taken = may.1.1 }
  by_done (Answered (FileRefused (ReadFault file))) may is = cc
  by_done (Answered (FileRefused (TooLong file))) may is = cc
  by_done (Answered (TextRefused r)) may is = absurd ((of_texts r).not_done is)
  by_done e may is = cc

  by_usage : (e : Ending) → MayEnd words loading out e → status_of e ≡ status.Usage → AsksNothing words
  by_usage Usage may is = may.0
  by_usage (Answered (FileRefused (ReadFault file))) may is = cc
  by_usage (Answered (FileRefused (TooLong file))) may is = cc
  by_usage (Answered (TextRefused r)) may is = absurd ((of_texts r).not_usage is)
  by_usage e may is = cc

  by_read : (e : Ending) → MayEnd words loading out e → status_of e ≡ status.ReadFault
      → (file : List ℕ) × WordsComeTo words loading (FileRefused (ReadFault file)) × IsKept out
  by_read (Answered (FileRefused (ReadFault file))) may is = (file, may.0, may.1)
  by_read (Answered (FileRefused (TooLong file))) may is = cc
  by_read (Answered (TextRefused r)) may is = absurd ((of_texts r).not_read is)
  by_read e may is = cc

  by_long : (e : Ending) → MayEnd words loading out e → status_of e ≡ status.TooLong
      → (file : List ℕ) × WordsComeTo words loading (FileRefused (TooLong file)) × IsKept out
  by_long (Answered (FileRefused (TooLong file))) may is = (file, may.0, may.1)
  by_long (Answered (FileRefused (ReadFault file))) may is = cc
  by_long (Answered (TextRefused r)) may is = absurd ((of_texts r).not_long is)
  by_long e may is = cc

  by_unwritten : (e : Ending) → MayEnd words loading out e → status_of e ≡ status.WriteFault
      → IsCutShort words loading out
  by_unwritten WriteFault may is = may
  by_unwritten (Answered (FileRefused (ReadFault file))) may is = cc
  by_unwritten (Answered (FileRefused (TooLong file))) may is = cc
  by_unwritten (Answered (TextRefused r)) may is = absurd ((of_texts r).not_write is)
  by_unwritten e may is = cc

  by_refused : (e : Ending) (q : TextRefusal) → MayEnd words loading out e → text_status q ≡ status_of e
      → (r : TextRefusal) × (text_status r ≡ status_of e) × WordsComeTo words loading (TextRefused r) × IsKept out
  by_refused (Answered (TextRefused r)) q may is = (r, refl, may.0, may.1)
  by_refused (Answered (Output text)) q may is = absurd ((of_texts q).not_done is)
  by_refused Usage q may is = absurd ((of_texts q).not_usage is)
  by_refused (Answered (FileRefused (ReadFault file))) q may is = absurd ((of_texts q).not_read is)
  by_refused WriteFault q may is = absurd ((of_texts q).not_write is)
  by_refused (Answered (FileRefused (TooLong file))) q may is = absurd ((of_texts q).not_long is)
  by_refused NoMemory q may is = absurd ((of_texts q).not_memory is)

  -- where a run isn't done, nothing was put on `out`, or it could not take the output
  by_kept : (e : Ending) → MayEnd words loading out e → status_of e ≢ status.Done
      → IsKept out ⊎ (IsUntaken words loading out ⊎ IsCutShort words loading out)
  by_kept NoMemory may other = may
  by_kept Usage may other = inl may.1
  by_kept WriteFault may other = inr (inr may)
  by_kept (Answered (Output text)) may other = absurd (other refl)
  by_kept (Answered (FileRefused u)) may other = inl may.1
  by_kept (Answered (TextRefused r)) may other = inl may.1

  by_unasked : (e : Ending) → MayEnd words loading out e → AsksNothing words
      → (status_of e ≡ status.Usage) ⊎ (status_of e ≡ status.NoMemory)
  by_unasked NoMemory may nothing = inr refl
  by_unasked Usage may nothing = inl refl
  by_unasked WriteFault may nothing = absurd (nothing may.comes.asked may.comes.asks)
  by_unasked (Answered a) may nothing = absurd (nothing may.0.asked may.0.asks)

pub ends_done : (words : List (String Global)) (loading : LoadStage) (out err : SinkChange) (result : Status)
    → Ends words loading out err result → result ≡ status.Done → IsDone words loading out
ends_done words loading out err result ends is =
    by_done words loading out ends.ending ends.may (sym ends.puts.status_is ∙ is)

pub ends_unasked : (words : List (String Global)) (loading : LoadStage) (out err : SinkChange) (result : Status)
    → Ends words loading out err result → AsksNothing words → (result ≡ status.Usage) ⊎ (result ≡ status.NoMemory)
ends_unasked words loading out err result ends nothing =
    elim (by_unasked words loading out ends.ending ends.may nothing) [
      | inl usage ↦ inl (ends.puts.status_is ∙ usage)
      | inr memory ↦ inr (ends.puts.status_is ∙ memory)
    ]

pub shows_cause : (words : List (String Global)) (content : Contents) (before now : Counts) (out err : SinkChange)
    (result : Status) → Ends words (loads content before now) out err result
    → ShowsCause words content before now out result
shows_cause words content before now out err result ends = record {
  usage = λ is. by_usage words loading out ends.ending ends.may (at status.Usage is);
  read_fault = λ is. read is;
  read_rose = λ is. (let fault = read is in record {
    asked = fault.1.asked;
    asks = fault.1.asks;
    rose = read_rose content before now fault.1.asked.files fault.0 fault.1.comes;
  });
  too_long = λ is. long is;
  long_without_fault = λ is. (let found = long is in
      long_without_fault content before now found.1.asked.files found.0 found.1.comes);
  refused = λ q is. rw ends.puts.status_is
      (by_refused words loading out ends.ending q ends.may (sym is ∙ ends.puts.status_is));
  write_fault = λ is. by_unwritten words loading out ends.ending ends.may (at status.WriteFault is);
  out_refused = λ other. by_kept words loading out ends.ending ends.may (λ is. other (ends.puts.status_is ∙ is));
}
  where
    loading : LoadStage
    loading = loads content before now

    at : (s : Status) → result ≡ s → status_of ends.ending ≡ s
    at s is = sym ends.puts.status_is ∙ is

    read : result ≡ status.ReadFault → (file : List ℕ)
        × WordsComeTo words (loads content before now) (FileRefused (ReadFault file)) × IsKept out
    read is = by_read words (loads content before now) out ends.ending ends.may (at status.ReadFault is)

    long : result ≡ status.TooLong → (file : List ℕ)
        × WordsComeTo words (loads content before now) (FileRefused (TooLong file)) × IsKept out
    long is = by_long words (loads content before now) out ends.ending ends.may (at status.TooLong is)

pub ends_silent : (words : List (String Global)) (loading : LoadStage) (out err : SinkChange) (result : Status)
    → Ends words loading out err result → result ≡ status.Done → IsKept err
ends_silent words loading out err result ends done = by ends.ending (sym ends.puts.status_is ∙ done) ends.told
  where
    by : (e : Ending) → status_of e ≡ status.Done → TellsOnce e err → IsKept err
    by (Answered (Output text)) is told = told
    by (Answered (FileRefused (ReadFault file))) is told = cc
    by (Answered (FileRefused (TooLong file))) is told = cc
    by (Answered (TextRefused r)) is told = absurd ((of_texts r).not_done is)
    by e is told = cc

-- ---- where no fault is counted
never_rose : (before : ℕ) → Rose before 0 → ⊥
never_rose before rose = omega arith

unwritten_not : (words : List (String Global)) (loading : LoadStage) (out : SinkChange) → out.now ≡ 0
    → IsCutShort words loading out → ⊥
unwritten_not words loading out now unwritten = (let rose = unwritten.rose in never_rose out.before (rw now at rose))

pub due_without : (words : List (String Global)) (deserved result : Status)
    → IsDeservedUnlessFault deserved result (ReadRose words no_faults no_faults) (Rose 0 0)
    → (result ≡ deserved) ⊎ (result ≡ status.NoMemory)
due_without words deserved result (AsDeserved is) = inl is
due_without words deserved result (WithoutMemory is) = inr is
due_without words deserved result (ByReadFault is rose) = absurd (never_rose 0 rose.rose.4)
due_without words deserved result (ByWriteFault is rose) = absurd (never_rose 0 rose)

pub never_unread : (words : List (String Global)) (content : Contents) (out : SinkChange) (result : Status)
    → ShowsCause words content no_faults no_faults out result → result ≢ status.ReadFault
never_unread words content out result shows is = never_rose 0 (shows.read_rose is).rose.4

pub never_unwritten : (words : List (String Global)) (content : Contents) (before now : Counts) (out : SinkChange)
    (result : Status) → out.now ≡ 0 → ShowsCause words content before now out result → result ≢ status.WriteFault
never_unwritten words content before now out result none shows is =
    unwritten_not words (loads content before now) out none (shows.write_fault is)

-- and where a put that finds no memory leaves a sink as it was
pub always_kept : (words : List (String Global)) (content : Contents) (before now : Counts) (out : SinkChange)
    (result : Status) → out.now ≡ 0 → ((piece : List ℕ) → out.Puts piece (Err NoRoom) → IsKept out)
    → ShowsCause words content before now out result → result ≢ status.Done → IsKept out
always_kept words content before now out result none without shows other = elim (shows.out_refused other) [
  | inl kept ↦ kept
  | inr (inl untaken) ↦ without untaken.output untaken.put
  | inr (inr unwritten) ↦ absurd (unwritten_not words (loads content before now) out none unwritten)
]

-- ---- from what is due to how the run ends
without_memory : (words : List (String Global)) (loading : LoadStage) (out : SinkChange) (e : Ending) → IsRefusal e
    → MayEnd words loading out e → MayEnd words loading out NoMemory
without_memory words loading out NoMemory is may = may
without_memory words loading out Usage is may = inl may.1
without_memory words loading out WriteFault is may = inr (inr may)
without_memory words loading out (Answered (Output text)) is may = absurd is
without_memory words loading out (Answered (FileRefused u)) is may = inl may.1
without_memory words loading out (Answered (TextRefused r)) is may = inl may.1

line_told : (err : SinkChange) (e : Ending) → IsRefusal e → PutsOneLine e err → TellsOnce e err
line_told err NoMemory is once = once
line_told err Usage is once = once
line_told err WriteFault is once = once
line_told err (Answered (Output text)) is once = absurd is
line_told err (Answered (FileRefused u)) is once = once
line_told err (Answered (TextRefused r)) is once = once

due_refusal : (due e : Ending) → IsRefusal due → (e ≡ due) ⊎ (e ≡ NoMemory) → IsRefusal e
due_refusal due e is (inl same) = subst IsRefusal (sym same) is
due_refusal due e is (inr want) = subst IsRefusal (sym want) tt

pub ends_as_put : (words : List (String Global)) (loading : LoadStage) (out err : SinkChange) (result : Status)
    (due : Ending)
    → IsRefusal due → MayEnd words loading out due → PutsDue due err result → Ends words loading out err result
ends_as_put words loading out err result due is may due_put = record {
  ending = due_put.ending;
  may = elim due_put.one_of [
    | inl same ↦ subst (λ (e : Ending). MayEnd words loading out e) (sym same) may
    | inr want ↦ subst (λ (e : Ending). MayEnd words loading out e) (sym want)
        (without_memory words loading out due is may)
  ];
  puts = due_put.puts;
  told = line_told err due_put.ending (due_refusal due due_put.ending is due_put.one_of) due_put.once;
}

pub refusal_ends : (r : Refusal) → IsRefusal (ending_of r)
refusal_ends (made.Improper breach) = tt
refusal_ends r = tt

pub ends_written : (words : List (String Global)) (loading : LoadStage) (out err : SinkChange) (output : List ℕ)
    → WordsComeTo words loading (Output output) → Appends out.old output out.new → out.Puts output (Ok tt)
    → err.new ≡ err.old → IsKept err → Ends words loading out err status.Done
ends_written words loading out err output comes written taken kept silent = record {
  ending = Answered (Output output);
  may = (comes, (written, taken));
  puts = record {
    status_is = refl;
    part = (0, nothing_put err.old err.new [] kept);
    whole = inr (inl (nothing_put err.old err.new [] kept));
  };
  told = silent;
}

-- a call that stops before the output is there
pub stops_run : (words : List (String Global)) (loading : LoadStage) (out : SinkChange) (asked : Request) (e : Ending)
    → Asks words asked → IsKept out → MayStopCommand loading asked e → MayEnd words loading out e
stops_run words loading out asked NoMemory asks kept may = inl kept
stops_run words loading out asked (Answered (FileRefused u)) asks kept may =
    (record { asked = asked; asks = asks; comes = may }, kept)
stops_run words loading out asked (Answered (TextRefused r)) asks kept may =
    (record { asked = asked; asks = asks; comes = may }, kept)
stops_run words loading out asked e asks kept may = absurd may

-- ---- which files are loaded
pub none_named : {Shelf : Type 0} (Loads : LoadsOf Shelf) (words : List (String Global))
    (old new : Shelf) → NamesNoFile words → LoadsNamed Loads words old new → new ≡ old
none_named Loads words old new none (NoneLoaded same) = same
none_named {Shelf} Loads words old new none (FirstLoaded asked asks first) =
    untouched first.first first.later first.between (sym (none asked asks) ∙ first.cut) first.loaded first.stops
  where
    untouched : (former later : List (List ℕ)) (between : Shelf) → [] ≡ former ++ later
        → AreLoaded Loads former old between → StopsLoading Loads later between new → new ≡ old
    untouched [] [] between is path stops = stops ∙ path
    untouched [] (file ∷ later) between is path stops = cc
    untouched (file ∷ former) later between is path stops = cc

-- where a load changes nothing
abbrev pub KeepsAll : {Shelf : Type 0} → LoadsOf Shelf
KeepsAll before name answer after = after ≡ before

pub always_same : {Shelf : Type 0} (words : List (String Global)) (old new : Shelf)
    → LoadsNamed KeepsAll words old new → new ≡ old
always_same words old new (NoneLoaded same) = same
always_same {Shelf} words old new (FirstLoaded asked asks first) =
    stopped first.later first.stops ∙ along first.first old first.loaded
  where
    along : (names : List (List ℕ)) (now : Shelf) → AreLoaded KeepsAll names now first.between → first.between ≡ now
    along [] now path = path
    along (name ∷ names) now path = along names path.1 path.3 ∙ path.2

    stopped : (later : List (List ℕ)) → StopsLoading KeepsAll later first.between new → new ≡ first.between
    stopped [] stops = stops
    stopped (file ∷ later) (inl same) = same
    stopped (file ∷ later) (inr unread) = unread.1
