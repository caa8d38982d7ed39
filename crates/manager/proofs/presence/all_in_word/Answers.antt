use Rattle.manager.proofs.Filled.{filled_yes, filled_no}
use Rattle.manager.proofs.presence.all_in_word.Goals as goal

pub returns-clause-yes : goal.returns-clause-yes
returns-clause-yes c = λ l. filled_yes c.args.words.now c.args.from c.args.count l

pub returns-clause-no : goal.returns-clause-no
returns-clause-no c = λ _ l. filled_no c.args.words.now c.args.from c.args.count l
