use Rattle.std.proofs.Common.{refl, inl, inr}
use Rattle.si_io.proofs.host.HostShelfShelf.load.Goals as goal

pub returns-clause-file : goal.returns-clause-file
returns-clause-file g c = inr (record {
  once = record {
    between = c.open.new.self;
    start = c.in-Ok.file;
    end = c.read_all-loaded.new.reader;
    opened = c.in-Ok.ensures.opened;
    read = c.read_all-loaded.ensures.calls;
    closed = c.close.ensures.closed;
  };
  taken = c.read_all-loaded.ensures.part.0;
  takes = c.read_all-loaded.ensures.part.1;
  within = c.read_all-loaded.ensures.part.2;
  answer = c.read_all-loaded.ensures.load;
})

pub returns-clause-loaded : goal.returns-clause-loaded
returns-clause-loaded g c = inr (record {
  between = c.open.new.self;
  start = c.in-Ok.file;
  end = c.read_all-loaded.new.reader;
  opened = c.in-Ok.ensures.opened;
  read = c.read_all-loaded.ensures.calls;
  closed = c.close.ensures.closed;
})
