use Rattle.std.proofs.Common.{◌≡◌, refl, inl, inr}
use Rattle.si_io.specs.declared.sink.PutFault.TheVariants.{Failed, NoMemory as NoRoom}
use Rattle.si_readings.proofs.ReadingRefusals.{handed_on}
use Rattle.si_tool.specs.Loads.{loads}
use Rattle.si_commands.specs.Loops.Reads.{request_of}
use Rattle.si_tool.specs.Run.{change, MayEnd, NoneLoaded, FirstLoaded}
use Rattle.si_tool.proofs.RunLemmas.{stops_run}
use Rattle.si_tool.proofs.run.put_output.Goals as goal

pub returns-in_err-command-clause-named : goal.returns-in_err-command-clause-named
returns-in_err-command-clause-named g c = NoneLoaded refl

pub returns-in_err-text-clause-refused : goal.returns-in_err-text-clause-refused
returns-in_err-text-clause-refused g c =
    let loading = loads (g.H.Shelf.content c.args.shelf.now) (g.H.Shelf.faults c.args.shelf.now)
    (g.H.Shelf.faults c.output.new.shelf) in
    let out = change g.O.Sink.faults g.O.Sink.bytes g.O.Sink.puts c.args.out.now c.args.out.now in
    let asked = request_of c.in_ok-command.command in
    handed_on c.from_residual-in_err-text.result _ (MayEnd c.args.words.now loading out)
    c.from_residual-in_err-text.ensures.1
    (stops_run c.args.words.now loading out asked _ c.in_ok-command.ensures.ok refl c.in_err-text.ensures.err)

pub returns-in_err-text-clause-named : goal.returns-in_err-text-clause-named
returns-in_err-text-clause-named g c =
    FirstLoaded (request_of c.in_ok-command.command) c.in_ok-command.ensures.ok c.output.ensures.loaded

pub returns-in-Ok-clause-done : goal.returns-in-Ok-clause-done
returns-in-Ok-clause-done g c = record {
  output = c.in_ok-text.text;
  comes = record {
    asked = request_of c.in_ok-command.command;
    asks = c.in_ok-command.ensures.ok;
    comes = c.in_ok-text.ensures.ok;
  };
  written = rw c.bytes.ensures at c.in-Ok.ensures.ok;
  taken = rw c.bytes.ensures at c.in-Ok.ensures.taken;
}

pub returns-in-Ok-clause-named : goal.returns-in-Ok-clause-named
returns-in-Ok-clause-named g c =
    FirstLoaded (request_of c.in_ok-command.command) c.in_ok-command.ensures.ok c.output.ensures.loaded

pub returns-in-Err-Failed-clause-refused : goal.returns-in-Err-Failed-clause-refused
returns-in-Err-Failed-clause-refused g c = record {
  output = c.in_ok-text.text;
  comes = record {
    asked = request_of c.in_ok-command.command;
    asks = c.in_ok-command.ensures.ok;
    comes = c.in_ok-text.ensures.ok;
  };
  put = (let same : c.in-Err-Failed.field-0 ≡ Failed = cc in
      rw (c.bytes.ensures, same) at c.in-Err-Failed.ensures.taken);
  rose = c.in-Err-Failed.ensures.failed (cc);
  part = rw c.bytes.ensures at (c.in-Err-Failed.ensures.part (cc));
}

pub returns-in-Err-Failed-clause-named : goal.returns-in-Err-Failed-clause-named
returns-in-Err-Failed-clause-named g c =
    FirstLoaded (request_of c.in_ok-command.command) c.in_ok-command.ensures.ok c.output.ensures.loaded

pub returns-clause-refused : goal.returns-clause-refused
returns-clause-refused g c = inr (inl (record {
  output = c.in_ok-text.text;
  comes = record {
    asked = request_of c.in_ok-command.command;
    asks = c.in_ok-command.ensures.ok;
    comes = c.in_ok-text.ensures.ok;
  };
  put = (let same : c.in-Err-NoMemory.field-0 ≡ NoRoom = cc in
      rw (c.bytes.ensures, same) at c.in-Err-NoMemory.ensures.taken);
  kept = c.in-Err-NoMemory.ensures.no_memory (cc);
}))

pub returns-clause-named : goal.returns-clause-named
returns-clause-named g c =
    FirstLoaded (request_of c.in_ok-command.command) c.in_ok-command.ensures.ok c.output.ensures.loaded
