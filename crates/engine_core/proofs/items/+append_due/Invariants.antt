use Rattle.engine_core.proofs.items.+append_due.Given as goal

abbrev pub decreases-append_due : goal.decreases-append_due
decreases-append_due l = l.most
