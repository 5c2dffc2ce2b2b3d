use Rattle.si_commands.proofs.HelpLines.{page_shows, has_its_page}
use Rattle.si_commands.proofs.laws.pages_show_their_commands.Goals as goal

pub returns : goal.returns
returns c = record {
  shown = page_shows;
  before = λ words task word is stands. (stands, (has_its_page task word is, tt));
  behind = λ words task word is stands. (stands, (has_its_page task word is, tt));
}
