mod DelayLaw
