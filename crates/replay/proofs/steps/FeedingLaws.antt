-- The lines of a chunk are taken one after another, and a last one at the text's end.
use Prim.Native.Nat.{ℕ, suc, ◌+◌, ◌-◌, ◌≤◌, ◌<◌}
use native.Mathlib.Numerals.{add-one}
use native.Mathlib.Omega.{arith}
use mathlib.Core.Path.{◌≡◌, refl, sym, ap, ◌∙◌, subst}
use mathlib.Core.List.{List, [], ◌∷◌, ◌++◌, append_assoc, append-nil}
use mathlib.Core.Bool.{Bool, true, false}
use mathlib.Core.Option.{Option, none, some}
use lib.ListN.{length, take, drop, length-append, length-drop, drop_of_length-le}
use lib.Seq.{length-take-le, take_all, drop-cons, take-append-add}
use Rattle.std.proofs.lemmas.List.{drop-drop, take-append-le}
use Rattle.std.specs.Prelude.{◌==◌}
use borrow.Author.Tests.{eqb-true, eqb-false}
use Rattle.text.specs.definitions.Syntax.{File}
use Rattle.cycles.specs.definitions.Header.{Column, header}
use Rattle.cycles.specs.definitions.Readings.{PartOfLine}
use Rattle.replay.specs.inner_contracts.Awaiting.{Awaits, awaited_under, prints, awaited_after, prints_at_end, to_print, left_after, Memory, StandsAt}
use Rattle.replay.specs.inner_contracts.Awaiting.Awaits.{names, values, nothing}
use Rattle.replay.specs.inner_contracts.Feeding.{Gathers, LineGathered, LinePut, Feeding, GathersOn, LineGatheredOn, LinePutOn, FeedingOn, Finished, is_over}
use Rattle.replay.specs.declared.Stage.{Stage}
use Rattle.replay.specs.declared.Stage.TheVariants.{Names, Values, Closed}
use Rattle.replay.proofs.laws.AwaitingLaws.{print_fed, left_fed, print_last, print_none, nothing_printed}

-- ---- the lines of a chunk

-- the rest of a chunk, as code lends it
rest_is : (chunk : List ℕ) (taken : ℕ) → take (length chunk - taken) (drop taken chunk) ≡ drop taken chunk
rest_is chunk taken = let d = length-drop taken chunk in take_all (length chunk - taken) (drop taken chunk) (omega arith)

-- .. and the rest of a buffer has the same length after a call
pub room_left : (out : List ℕ) (used : ℕ) (part : List ℕ) → used ≤ length out → length part ≡ length (take (length out - used) (drop used out))
    → length part ≡ length out - used
room_left out used part h e = e ∙ ap length (rest_is out used) ∙ length-drop used out

module _ (m : Memory) (chunk : List ℕ) where
  pub feeding_none : (out : List ℕ) → Feeding m chunk m out 0 0
  feeding_none out = record {
    inside = omega arith;
    fits = omega arith;
    still = λ h. refl;
    goes = λ a s. record { later = a; stands = s; is = λ rest. refl; left = λ rest. refl };
  }

  module _ {n n2 : Memory} {out : List ℕ} {taken used : ℕ} (f : Feeding m chunk n out taken used) where
    -- the chunk ends before the line does
    pub feeding_waits : Gathers n (take (length chunk - taken) (drop taken chunk)) (length (take (length chunk - taken) (drop taken chunk))) n2 → Feeding m chunk n2 out (length chunk) used
    feeding_waits g0 = let g : Gathers n (drop taken chunk) (length (drop taken chunk)) n2 = subst (λ (l : List ℕ). Gathers n l (length l) n2) (rest_is chunk taken) g0 in record {
      inside = omega arith;
      fits = f.fits;
      still = λ h. f.still (let i = f.inside in omega arith);
      goes = λ a s.
          let t = f.goes a s in
          let none_left : drop (length (drop taken chunk)) (drop taken chunk) ≡ drop (length chunk) chunk =
          drop_of_length-le (drop taken chunk) (omega arith) ∙ sym (drop_of_length-le chunk (omega arith)) in
          record {
            later = t.later;
            stands = g.stands t.later t.stands;
            is = λ rest.
                t.is rest ∙ ap (λ (x : List ℕ). take used out ++ x)
                (g.is t.later rest ∙ ap (λ (x : List ℕ). to_print t.later (n2.waiting ++ (x ++ rest))) none_left);
            left = λ rest. t.left rest ∙ g.left t.later rest ∙ ap (λ (x : List ℕ). left_after t.later (n2.waiting ++ (x ++ rest))) none_left;
          };
    }

    -- a line ends, and what it prints is put
    pub feeding_put : {end : ℕ} → LineGathered n (take (length chunk - taken) (drop taken chunk)) n2 end
        → {n3 : Memory} (part rest : List ℕ) {out2 : List ℕ} {r : ℕ} → LinePut n2 n3 part r → out2 ≡ take used out ++ (part ++ rest)
        → r ≤ length part
        → Feeding m chunk n3 out2 (taken + (end + 1)) (used + r)
    feeding_put {end} l0 {n3} part rest0 {out2} {r} p e fits = record {
      inside = let i = l.inside in let d = length-drop taken chunk in omega arith;
      fits =
          let z = ap length e ∙ length-append (take used out) (part ++ rest0) in
          let y = length-append part rest0 in
          let t = length-take-le used out f.fits in
          omega arith;
      still = λ h. absurd (omega arith);
      goes = λ a s.
          let t = f.goes a s in
          let g = l.gathers in
          let w = p.is t.later (g.stands t.later t.stands) in
          let then = awaited_after t.later n2.waiting in
          record {
            later = then;
            stands = w.stands;
            is = λ rest.
                t.is rest
                ∙ ap (λ (x : List ℕ). take used out ++ x)
                (g.is t.later rest
                ∙ ap (λ (x : List ℕ). to_print t.later (n2.waiting ++ (x ++ rest))) fed
                ∙ print_fed t.later n2.waiting (drop (taken + (end + 1)) chunk ++ rest) g.part
                ∙ ap (λ (x : List ℕ). prints t.later n2.waiting ++ to_print then (x ++ (drop (taken + (end + 1)) chunk ++ rest))) (sym p.none_waits))
                ∙ sym (append_assoc (take used out) (prints t.later n2.waiting) (to_print then (n3.waiting ++ (drop (taken + (end + 1)) chunk ++ rest))))
                ∙ ap (λ (x : List ℕ). x ++ to_print then (n3.waiting ++ (drop (taken + (end + 1)) chunk ++ rest)))
                (ap (λ (x : List ℕ). take used out ++ x) (sym w.printed) ∙ sym taken_out);
            left = λ rest.
                t.left rest ∙ g.left t.later rest
                ∙ ap (λ (x : List ℕ). left_after t.later (n2.waiting ++ (x ++ rest))) fed
                ∙ left_fed t.later n2.waiting (drop (taken + (end + 1)) chunk ++ rest) g.part
                ∙ ap (λ (x : List ℕ). left_after then (x ++ (drop (taken + (end + 1)) chunk ++ rest))) (sym p.none_waits);
          };
    }
      where
        l : LineGathered n (drop taken chunk) n2 end
        l = subst (λ (x : List ℕ). LineGathered n x n2 end) (rest_is chunk taken) l0

        taken_out : take (used + r) out2 ≡ take used out ++ take r part
        taken_out =
            ap (take (used + r)) e ∙ ap (λ (k : ℕ). take (k + r) (take used out ++ (part ++ rest0))) (sym (length-take-le used out f.fits))
            ∙ take-append-add (take used out) (part ++ rest0) r
            ∙ ap (λ (x : List ℕ). take used out ++ x) (take-append-le r part rest0 fits)

        fed : drop end (drop taken chunk) ≡ 10 ∷ drop (taken + (end + 1)) chunk
        fed =
            drop-cons (drop taken chunk) end 0 l.inside
            ∙ ap (λ (x : ℕ). x ∷ drop (suc end) (drop taken chunk)) l.feeds
            ∙ ap (λ (x : List ℕ). 10 ∷ x) (ap (λ (x : ℕ). drop x (drop taken chunk)) (sym (add-one end)) ∙ drop-drop (end + 1) taken chunk)

-- .. on one bench
module _ (m : Memory) (chunk : List ℕ) where
  pub feeding_none_on : (out : List ℕ) → FeedingOn m chunk m out 0 0
  feeding_none_on out = record { same = refl; feeding = feeding_none m chunk out }

  module _ {n n2 : Memory} {out : List ℕ} {taken used : ℕ} (f : FeedingOn m chunk n out taken used) where
    pub feeding_waits_on : GathersOn n (take (length chunk - taken) (drop taken chunk)) (length (take (length chunk - taken) (drop taken chunk))) n2
        → FeedingOn m chunk n2 out (length chunk) used
    feeding_waits_on g = record { same = g.same ∙ f.same; feeding = feeding_waits m chunk f.feeding g.gathers }

    pub feeding_put_on : {end : ℕ} → LineGatheredOn n (take (length chunk - taken) (drop taken chunk)) n2 end
        → {n3 : Memory} (part rest : List ℕ) {out2 : List ℕ} {r : ℕ} → LinePutOn n2 n3 part r → out2 ≡ take used out ++ (part ++ rest)
        → r ≤ length part
        → FeedingOn m chunk n3 out2 (taken + (end + 1)) (used + r)
    feeding_put_on l part rest p e fits =
        record { same = p.same ∙ (l.same ∙ f.same); feeding = feeding_put m chunk f.feeding l.line part rest p.put e fits }

-- ---- the text's end

names_over : (f : File) (l : List ℕ) (o : Option (List Column)) → prints_at_end (awaited_under f l o) ≡ []
unfolding prints_at_end awaited_under
names_over f l none = refl
names_over f l (some cs) = refl

-- after a line no other one has to be there
over : (a : Awaits) (l : List ℕ) → prints_at_end (awaited_after a l) ≡ []
unfolding prints_at_end awaited_after
over (names f) l = names_over f l (header f l)
over (values f ns s) l = refl
over nothing l = refl

last_printed : (a : Awaits) (k : List ℕ) → PartOfLine k → 0 < length k → to_print a k ≡ prints a k
last_printed a k p h = print_last a k p h ∙ ap (λ (x : List ℕ). prints a k ++ x) (over a k) ∙ append-nil (prints a k)

names_last : (f : File) (k : List ℕ) → PartOfLine k → to_print (names f) k ≡ prints (names f) k
unfolding prints_at_end
names_last f [] p = print_none (names f)
names_last f (b ∷ k) p = last_printed (names f) (b ∷ k) p (omega arith)

module _ (text : List ℕ) (columns line state : List ℕ) where
  none_printed : (stage : Stage) → is_over stage (length line) ≡ true → (a : Awaits) → StandsAt text a stage columns state → [] ≡ to_print a line
  unfolding is_over prints_at_end
  none_printed Names e a q = let z : ◌≡◌ {A = ℕ} 0 1 = cc in absurd (omega arith)
  none_printed (Values count) e (values f ns s) q = none_there line (eqb-true (length line) 0 e)
    where
      none_there : (l : List ℕ) → length l ≡ 0 → [] ≡ to_print (values f ns s) l
      none_there [] h = sym (print_none (values f ns s))
      none_there (b ∷ l) h = absurd (omega arith)
  none_printed Closed e nothing q = sym (nothing_printed line)
  none_printed (Values count) e (names _) q = elim q [ ]
  none_printed (Values count) e nothing q = elim q [ ]
  none_printed Closed e (names _) q = elim q [ ]
  none_printed Closed e (values f ns s) q = elim q [ ]

  last_there : PartOfLine line → (stage : Stage) → is_over stage (length line) ≡ false → (a : Awaits) → StandsAt text a stage columns state
      → to_print a line ≡ prints a line
  unfolding is_over
  last_there part st x (names f) y = names_last f line part
  last_there part (Values count) x (values f ns s) y = let z = eqb-false (length line) 0 x in last_printed (values f ns s) line part (omega (arith, z))
  last_there part Closed x nothing y = let z : ◌≡◌ {A = ℕ} 0 1 = cc in absurd (omega arith)
  last_there part Names x (values f ns s) y = elim y [ ]
  last_there part Closed x (values f ns s) y = elim y [ ]
  last_there part Names x nothing y = elim y [ ]
  last_there part (Values count) x nothing y = elim y [ ]

-- does nothing wait?
pub values_over : {stage : Stage} {count : ℕ} (line : List ℕ) {none : Bool} → none ≡ (length line == 0) → stage ≡ Values count
    → none ≡ is_over stage (length line)
unfolding is_over
values_over line e h = rw h e

module _ (m : Memory) (out : List ℕ) where
  pub none_finished : {over : Bool} → over ≡ is_over m.stage (length m.waiting) → over ≡ true → Finished m out 0
  none_finished e t = record { fits = omega arith; is = none_printed m.text m.columns m.waiting m.state m.stage (sym e ∙ t) }

  pub last_finished : {over : Bool} → over ≡ is_over m.stage (length m.waiting) → over ≡ false → {n : Memory} {r : ℕ} → LinePut m n out r → Finished m out r
  last_finished e t p =
      record { fits = p.short; is = λ a q. (p.is a q).printed ∙ sym (last_there m.text m.columns m.waiting m.state p.part m.stage (sym e ∙ t) a q) }
