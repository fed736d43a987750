-- A line that its sender sends again in a run is accepted: whatever came between, the state holds each sender's latest line for resent.
use Prim.Native.Nat.{ℕ, ◌%◌, ◌<◌}
use mathlib.Core.Path.{◌≡◌, refl, sym, ap, ap₂, ◌∙◌, subst}
use mathlib.Core.Bool.{Bool, true, false, cond}
use mathlib.Core.List.{List, [], ◌∷◌, ◌++◌}
use mathlib.Core.Option.{some}
use lib.Dec.{eqb}
use lib.ListN.{length}
use borrow.Author.Tests.{le-ltb, eqb-true}
use Rattle.values.specs.definitions.Bytes.{same_bytes}
use Rattle.values.proofs.laws.ByteLaws.{same_bytes_equal}
use Rattle.text.specs.definitions.Syntax.{File}
use Rattle.text.proofs.laws.ListLaws.{some_injective, none_some}
use Rattle.checking.specs.definitions.Verdict.{Verdict, file_verdict, verdict}
use Rattle.checking.proofs.laws.VerdictLaws.{accepted_verdict}
use Rattle.senders.specs.definitions.Sender.{State, Line}
use Rattle.senders.specs.definitions.Answer.{Answer, refused, accepted}
use Rattle.senders.specs.definitions.Line.{line_of, is_resent, Accepted, resent, its_line}
use Rattle.senders.specs.definitions.Follow.{fresh}
use Rattle.senders.specs.inner_contracts.TotalFollow.{follow}
use Rattle.senders.specs.definitions.Fingerprint.{fingerprint}
use Rattle.senders.proofs.laws.AnswerLaws.{HasNumber, refused_accepted, InTurn, line_read, line_resent}
use Rattle.senders.proofs.laws.SentAgain.{says_same, resent_after, resent_still}
use Rattle.senders.proofs.laws.StandsLaws.{fingerprint_below}
use Rattle.engine.specs.definitions.Calls.{ROW, AfterLine, line_row, line_call}
use Rattle.engine.specs.definitions.Runs.{Request, RunStart, Run, replies, machine_answer, Taken, said_line, taken_if, taken_by}
use Rattle.engine.specs.definitions.DemandOne.{number_of}
use Rattle.engine.specs.definitions.DemandTwo.{latest_of, SaysAgain, AllSentAgain}
use Rattle.engine.proofs.laws.Replies.{run_replies}
use Rattle.engine.proofs.laws.CallLaws.{StandsFor, Answered, answer_line, answer_number, row_accepts}
use Rattle.engine.proofs.laws.RunLaws.{call_gives, started}

-- x is a line of the sender n, and the state holds it for resent
abbrev Held : File → State → List ℕ → Taken → Type 0
Held f s n x = (n ≡ x.line.sender) × (is_resent f s x.line ≡ true)

-- of each sender the latest line
abbrev Keeps : File → List Taken → State → Type 0
Keeps f earlier s = (n : List ℕ) (x : Taken) → latest_of n earlier ≡ some x → Held f s n x

module _ (f : File) (s : State) (earlier : List Taken) (k : Keeps f earlier s) where
  -- after an accepted line too
  keeps_on : (a : Accepted) → InTurn f s a → (y : Taken) → its_line a ≡ y.line → Keeps f (y ∷ earlier) (follow f s a)
  unfolding latest_of
  keeps_on a t y e n x h = go (same_bytes n y.line.sender) refl h
    where
      go : (b : Bool) → same_bytes n y.line.sender ≡ b → cond b (some y) (latest_of n earlier) ≡ some x → Held f (follow f s a) n x
      go true p q =
          subst (Held f (follow f s a) n) (some_injective q)
          (same_bytes_equal n y.line.sender p, subst (λ (l : Line). is_resent f (follow f s a) l ≡ true) e (resent_after f s a t))
      go false p q =
          let (d, i) = k n x q in
          (d, resent_still f s a x.line (ap₂ same_bytes (sym d) (ap (λ (l : Line). l.sender) e) ∙ p) ∙ i)

  answer_again : (q : Request) (w : SaysAgain f earlier q) → machine_answer f s q ≡ accepted (resent (line_of w.says))
  unfolding machine_answer line_of
  answer_again q w =
      let (d, i) = k w.says.sender w.latest w.is_latest in
      rw (le-ltb (length q.row) ROW w.room, machine_answer)
      (line_resent f s q.names q.values w.is_read (says_same f s w.latest.line (line_of w.says) i d w.number w.readings))

module _ (print : ℕ) (below : print < 4294967296) (f : File) (ok : file_verdict f ≡ Verdict.accepted f) (b : List ℕ) where
  replies_again : (qs : List Request) (m : List ℕ) (s : State) → StandsFor print f b m s → (earlier : List Taken) → Keeps f earlier s
      → AllSentAgain f earlier m qs (replies b m qs)
  unfolding replies taken_by taken_if said_line
  replies_again [] m s st earlier k = tt
  replies_again (q ∷ qs) m s st earlier k =
      let r = line_call b m q.names q.values q.row in
      go r (machine_answer f s q) refl (answer_number f s q) (call_gives print below f ok b m s st q) (λ t. replies_again qs r.state t)
    where
      go : (r : AfterLine) (a : Answer Accepted) → machine_answer f s q ≡ a → HasNumber a → Answered print f b m s q r a
          → ((t : State) → StandsFor print f b r.state t → (xs : List Taken) → Keeps f xs t → AllSentAgain f xs r.state qs (replies b r.state qs))
          → (SaysAgain f earlier q → number_of r.answer ≡ 0) × AllSentAgain f (taken_by f m q r ++ earlier) r.state qs (replies b r.state qs)
      go r (refused code) e n h later =
          (λ w. absurd (refused_accepted (sym e ∙ answer_again f s earlier k q w)), rw (h.answer_is, n) (later s h.stands earlier k))
      go r (accepted a) e n h later =
          let t = line_read f s q.names q.values (answer_line f s q e) in
          let z : eqb (r.answer % 256) 0 ≡ true = rw h.gives.answer_is (row_accepts (line_row f s a)) in
          let x : Taken = record { line = its_line a; before = m; reply = r } in (
            λ w. eqb-true (r.answer % 256) 0 z,
            rw (z, t.is_read, t.is_line) (later (follow f s a) h.gives.stands (x ∷ earlier) (keeps_on f s earlier k a t.turn x refl)),
          )

pub run_sent_again : (text : List ℕ) (f : File) → verdict text ≡ Verdict.accepted f → (bench state : List ℕ) → RunStart text bench state
    → (qs : List Request) (rs : List AfterLine) → Run bench state qs rs → AllSentAgain f [] state qs rs
unfolding latest_of
run_sent_again text f v bench state b qs rs run =
    rw (run_replies run)
    (replies_again (fingerprint text) (fingerprint_below text) f (accepted_verdict text v) bench qs state (fresh f) (started text f v b) []
    (λ n x h. absurd (none_some h)))
