use Rattle.perc_keydist.proofs.Rolling.{kept_front}
use Rattle.perc_keydist.proofs.replies.append_renewal.Goals as goal

pub returns-clause-front : goal.returns-clause-front
returns-clause-front g c = kept_front c.append.result c.args.out.now.items c.append.new.out.items _ c.append.ensures.out c.append.ensures.refused
