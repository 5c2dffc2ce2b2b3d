-- What a call hands on.
use Rattle.std.proofs.Common.{◌≡◌, ℕ, ◌+◌, List, [], ◌∷◌, ◌++◌, take, Result, Ok, Err, IfOk, IfErr, IsErrAnd, refl, sym}
use Rattle.std.proofs.Common.{subst, ◌∙◌, append_assoc, inl, inr}
use Rattle.si_commands.specs.Command.{Request}
use Rattle.si_refusals.specs.Ending.{Ending, NoMemory, Answered, MayStopLoading, MayStop, ending_of}
use Rattle.si_tool.specs.Loads.{Contents, Counts, CountsStay, AreLoaded, IsUnread, LoadsFirst, LoadsOf, StopsLoading}
use Rattle.si_tool.specs.Loads.{load_well, load, loads, loads_well}
use Rattle.si_tool.specs.Meaning.{LoadStage, meaning, ComesTo, MayStopCommand}
use Rattle.si_refusals.specs.Refusal.{FileRefusal, FileRefused, TextRefused, Output}
use Rattle.si_refusals.specs.Stages.{Stage}
use Rattle.si_refusals.specs.declared.refusals.Refusal.{Refusal}
use Rattle.si_readings.proofs.ReadingRefusals.{handed_on, err_map}
use Rattle.si_tool.proofs.LoadLemmas.{load_since, loads_of_well, loads_refused, one_more_well, one_more_loaded}

-- ---- the refusal that a `?` hands on
pub stops_loading : {X A : Type 0} (stage : Stage FileRefusal A) (r : Result X Refusal) (e : Refusal)
    → IsErrAnd r (λ x. x ≡ e) → MayStopLoading stage (ending_of e) → IfErr r (λ f. MayStopLoading stage (ending_of f))
stops_loading stage r e is may = handed_on r e (MayStopLoading stage) is may

pub stops_command : {X : Type 0} (loading : LoadStage) (asked : Request) (r : Result X Refusal) (e : Refusal)
    → IsErrAnd r (λ x. x ≡ e) → MayStopCommand loading asked (ending_of e)
    → IfErr r (λ f. MayStopCommand loading asked (ending_of f))
stops_command loading asked r e is may = handed_on r e (MayStopCommand loading asked) is may

-- ---- files, one after another

-- the names up to a place were loaded, and no fault was counted
pub record IsLoadedTo {Shelf : Type 0} (content : Shelf → Contents) (faults : Shelf → Counts)
    (Loads : LoadsOf Shelf) (names : List (List ℕ)) (place : ℕ) (old now : Shelf)
    (texts : List (List ℕ)) : Type 0 where
  pub well : loads_well (content old) (take place names) (Ok texts)
  pub stay : CountsStay (faults old) (faults now)
  pub same : (n : List ℕ) → content now n ≡ content old n
  pub path : AreLoaded Loads (take place names) old now

module _ {Shelf : Type 0} (content : Shelf → Contents) (faults : Shelf → Counts)
    (Loads : LoadsOf Shelf) (names : List (List ℕ)) where
  pub next_loaded : (place : ℕ) (old now next : Shelf) (texts : List (List ℕ)) (name text : List ℕ)
      → take (place + 1) names ≡ take place names ++ name ∷ []
      → IsLoadedTo content faults Loads names place old now texts
      → load_well (content now) name (Ok text) → CountsStay (faults now) (faults next)
      → ((n : List ℕ) → content next n ≡ content now n) → Loads now name (Ok text) next
      → IsLoadedTo content faults Loads names (place + 1) old next (texts ++ text ∷ [])
  next_loaded place old now next texts name text more before well stay same one =
      let since = load_since (content old) (content now) (faults old) (faults now) (faults next)
      before.same before.stay name (Ok text) well in
      record {
        well = rw more (one_more_well (content old) (take place names) name texts text before.well since);
        stay = λ n. stay n ∙ before.stay n;
        same = λ n. same n ∙ before.same n;
        path = rw more (one_more_loaded Loads (take place names) name text old now next before.path one);
      }

  -- a load that stops: its name is the last that was loaded
  pub stops_there : (place : ℕ) (old now next : Shelf) (texts later : List (List ℕ)) (name : List ℕ) (e : Ending)
      → names ≡ take place names ++ name ∷ later
      → IsLoadedTo content faults Loads names place old now texts
      → MayStopLoading (load (content now) (faults now) (faults next) name) e
      → MayStopLoading (loads (content old) (faults old) (faults next) names) e
  stops_there place old now next texts later name NoMemory cut before may = tt
  stops_there place old now next texts later name (Answered (FileRefused r)) cut before may =
      let since = load_since (content old) (content now) (faults old) (faults now) (faults next)
      before.same before.stay name (Err r) may in
      let refused = loads_refused (content old) (faults old) (faults next) (take place names) later name texts r
      before.well since in
      subst (λ (ns : List (List ℕ)). loads (content old) (faults old) (faults next) ns (Err r)) (sym cut) refused
  stops_there place old now next texts later name e cut before may = absurd may

  -- its load gave no text
  pub first_unread : (place : ℕ) (old now next : Shelf) (texts later : List (List ℕ)) (name : List ℕ)
      → names ≡ take place names ++ name ∷ later
      → IsLoadedTo content faults Loads names place old now texts
      → IsUnread Loads name now next → LoadsFirst Loads names old next
  first_unread place old now next texts later name cut before unread = record {
    first = take place names;
    later = name ∷ later;
    cut = cut;
    between = now;
    loaded = before.path;
    stops = inr unread;
  }

  no_more : (files : List (List ℕ)) (now : Shelf) → StopsLoading Loads files now now
  no_more [] now = refl
  no_more (file ∷ files) now = inl refl

  -- or gave one, for which memory ran out
  pub first_loaded : (place : ℕ) (old now next : Shelf) (texts later : List (List ℕ)) (name text : List ℕ)
      → names ≡ take place names ++ name ∷ later
      → IsLoadedTo content faults Loads names place old now texts
      → Loads now name (Ok text) next → LoadsFirst Loads names old next
  first_loaded place old now next texts later name text cut before one = record {
    first = take place names ++ name ∷ [];
    later = later;
    cut = cut ∙ sym (append_assoc (take place names) (name ∷ []) later);
    between = next;
    loaded = one_more_loaded Loads (take place names) name text old now next before.path one;
    stops = no_more later next;
  }

  -- all are loaded
  pub all_are : (place : ℕ) (old now : Shelf) (texts : List (List ℕ)) → take place names ≡ names
      → IsLoadedTo content faults Loads names place old now texts
      → loads (content old) (faults old) (faults now) names (Ok texts)
  all_are place old now texts all before =
      loads_of_well (content old) (faults old) (faults now) names texts (rw all at before.well) before.stay

-- ---- a command, before and after its files are loaded
pub not_loaded : (loading : LoadStage) (asked : Request) (e : Ending) → MayStopLoading (loading asked.files) e
    → MayStopCommand loading asked e
not_loaded loading asked NoMemory may = tt
not_loaded loading asked (Answered (FileRefused refusal)) may = may
not_loaded loading asked e may = absurd may

not_done : (loading : LoadStage) (asked : Request) (texts : List (List ℕ)) (e : Ending)
    → loading asked.files (Ok texts) → MayStop (meaning asked.task asked.files asked.choices texts) e → MayStopCommand loading asked e
not_done loading asked texts NoMemory are may = tt
not_done loading asked texts (Answered (TextRefused refusal)) are may = (texts, are, may)
not_done loading asked texts e are may = absurd may

pub came_ok : {X : Type 0} (loading : LoadStage) (asked : Request) (texts : List (List ℕ)) (r : Result (List ℕ) X)
    → loading asked.files (Ok texts) → IfOk r (λ t. meaning asked.task asked.files asked.choices texts (Ok t))
    → IfOk r (λ t. ComesTo loading asked (Output t))
came_ok loading asked texts (Ok t) are is = (texts, are, is)
came_ok loading asked texts (Err e) are is = tt

pub came_err : {X : Type 0} (loading : LoadStage) (asked : Request) (texts : List (List ℕ)) (r : Result X Refusal)
    → loading asked.files (Ok texts) → IfErr r (λ f. MayStop (meaning asked.task asked.files asked.choices texts) (ending_of f))
    → IfErr r (λ f. MayStopCommand loading asked (ending_of f))
came_err loading asked texts r are may =
    err_map r (MayStop (meaning asked.task asked.files asked.choices texts)) (MayStopCommand loading asked)
    (λ e. not_done loading asked texts e are) may
