-- What the runner prints for whole files, in one statement: document 01's pedal table, and files with lines refused, empty or missing.
use mathlib.Core.Path.{◌≡◌, refl}
use mathlib.Core.List.{[]}
use Rattle.text.specs.definitions.Bytes.{ascii}
use Rattle.replay.specs.definitions.Replay.{replay}
use Rattle.trial_cases.specs.definitions.Trials.{pedal, smallest}

pub record ReplayCases : Type 0 where
  -- "Readings left, rows right"
  pub pedal_table : replay pedal (ascii "by n p.down s.pos\na 1 false 100\na 2 true 140\na 2 true 140\na 3 - 150\na 4 false 150\na 5 true 190\na 4 - -\n")
      ≡ ascii "by n k.keep\na 1 -\na 2 140\na 2 140\na 3 -\na 4 -\na 5 190\nrefused 24\n"
  -- "A last line feed is optional": without it the same is printed, and it opens no line
  pub pedal_table_unfed : replay pedal (ascii "by n p.down s.pos\na 1 false 100\na 2 true 140\na 2 true 140\na 3 - 150\na 4 false 150\na 5 true 190\na 4 - -")
      ≡ ascii "by n k.keep\na 1 -\na 2 140\na 2 140\na 3 -\na 4 -\na 5 190\nrefused 24\n"
  pub only_names : replay smallest (ascii "by n\n") ≡ ascii "by n\n"
  pub only_names_unfed : replay smallest (ascii "by n") ≡ ascii "by n\n"
  -- "A refused bench prints `refused`, number and place; .. then nothing"
  pub refused_bench : replay (ascii "rules") (ascii "by n\na 1\na 2\n") ≡ ascii "refused 13 5\n"
  -- "a refused line of names `refused 22`; then nothing"
  pub empty_names : replay smallest (ascii "\nby n\na 1\n") ≡ ascii "refused 22\n"
  -- "a missing file is empty"
  pub no_bytes : replay [] [] ≡ ascii "refused 13 0\n"
  pub no_readings : replay smallest [] ≡ ascii "refused 22\n"
  -- "a refused line prints `refused` and the refusal's number, and it goes on"
  pub refused_between : replay pedal (ascii "by n p.down s.pos\na 1 false 100\na 3 true 140\na 2 true 150\n") ≡ ascii "by n k.keep\na 1 -\nrefused 24\na 2 150\n"
  pub empty_between : replay smallest (ascii "by n\na 1\n\na 2\n") ≡ ascii "by n\na 1\nrefused 21\na 2\n"
  pub empty_last : replay smallest (ascii "by n\na 1\n\n") ≡ ascii "by n\na 1\nrefused 21\n"

pub replay_cases : ReplayCases
unfolding replay pedal smallest ascii
replay_cases = record {
  pedal_table = refl;
  pedal_table_unfed = refl;
  only_names = refl;
  only_names_unfed = refl;
  refused_bench = refl;
  empty_names = refl;
  no_bytes = refl;
  no_readings = refl;
  refused_between = refl;
  empty_between = refl;
  empty_last = refl;
}
