-- What a header and a record say, part by part: which refusal, or what is read.
use Prim.Native.Nat.{ℕ}
use mathlib.Core.Path.{◌≡◌}
use mathlib.Core.Bool.{true, false}
use mathlib.Core.List.{List}
use mathlib.Core.Option.{none, some}
use lib.ListN.{length}
use Rattle.text.specs.definitions.Syntax.{File}
use Rattle.cycles.specs.definitions.Header.{Column, header}
use Rattle.cycles.specs.definitions.Record.{Sent, record_of, Input, inputs_in}
use Rattle.senders.specs.definitions.Sender.{State, is_sender, has_place}
use Rattle.senders.specs.definitions.Answer.{refused}
use Rattle.senders.specs.inner_contracts.Advancing.{reading_with}
use Rattle.senders.specs.definitions.Line.{addressed, reading_of, line_addressed, line_in, line}

module _ (f : File) (names values : List ℕ) (cs : List Column) (h : header f names ≡ some cs) where
  pub line_no_record : (s : State) → record_of (length cs) values ≡ none → line f s names values ≡ refused 21
  unfolding line addressed
  line_no_record s r = rw (h, r)

  module _ (x : Sent) (r : record_of (length cs) values ≡ some x) where
    pub line_ill_formed : (s : State) → is_sender x.sender ≡ false → line f s names values ≡ refused 43
    unfolding line addressed
    line_ill_formed s w = rw (h, r, w)

    module _ (w : is_sender x.sender ≡ true) where
      pub line_no_room : (s : State) → has_place x.sender s.senders ≡ false → line f s names values ≡ refused 42
      unfolding line addressed line_addressed
      line_no_room s v = rw (h, r, w, v)

      pub line_bad_value : (s : State) → has_place x.sender s.senders ≡ true → inputs_in cs x.texts ≡ none → line f s names values ≡ refused 23
      unfolding line addressed line_addressed reading_of
      line_bad_value s v i = rw (h, r, w, v, i)

      pub line_said : (s : State) {is : List Input} → has_place x.sender s.senders ≡ true → inputs_in cs x.texts ≡ some is
          → line f s names values ≡ line_in f s (reading_with x is)
      unfolding line addressed line_addressed reading_of
      line_said s v i = rw (h, r, w, v, i)
