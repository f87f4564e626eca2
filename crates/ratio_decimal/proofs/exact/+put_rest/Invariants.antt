use Rattle.ratio_decimal.proofs.exact.+put_rest.Given as goal

abbrev pub decreases-put_rest : goal.decreases-put_rest
decreases-put_rest l = l.places
