use Rattle.perc_published.proofs.publisher.Publisher.publish.Given as goal

abbrev pub ghosts-publish : goal.ghosts-publish
ghosts-publish g a = record { history = a.ops.now }
