-- A text is accepted exactly if it is admitted.
use Prim.Native.Nat.{ℕ}
use mathlib.Core.Path.{◌≡◌, sym, ◌∙◌, subst}
use mathlib.Core.List.{List}
use lib.ListN.{length}
use borrow.Author.Tests.{le-leb}
use Rattle.text.specs.definitions.Syntax.{File}
use Rattle.text.proofs.theorems.ParserViable.{parser_exact}
use Rattle.checking.specs.definitions.Verdict.{accepted, refused_by, file_verdict, parsing_verdict, lexing_verdict, MOST_BYTES, verdict}
use Rattle.checking.specs.definitions.Admitted.{Faultless, Admitted}
use Rattle.checking.proofs.laws.FaultLaws.{none_earliest}
use Rattle.checking.proofs.laws.VerdictLaws.{accepted_length, accepted_verdict}
use Rattle.checking.proofs.laws.AcceptedLaws.{accepted_faultless, accepted_parsed}

faultless_accepted : (f : File) → Faultless f → file_verdict f ≡ accepted f
unfolding file_verdict refused_by
faultless_accepted f h = rw (none_earliest h.priorities, none_earliest h.counts, none_earliest h.names, none_earliest h.kinds)

pub accepted_admitted : (text : List ℕ) (f : File) → verdict text ≡ accepted f → Admitted text
accepted_admitted text f h =
    let p = accepted_parsed text f h in
    record {
      short = accepted_length text h;
      words = p.read;
      are_words = p.lexed;
      are_file = (parser_exact (length text) p.read).0 (f, p.parsed);
      faultless = λ g q. let e : f ≡ g = let k = sym p.parsed ∙ q in cc in subst Faultless e (accepted_faultless f (accepted_verdict text h));
    }

pub admitted_accepted : (text : List ℕ) → Admitted text → (f : File) × (verdict text ≡ accepted f)
unfolding verdict lexing_verdict parsing_verdict
admitted_accepted text a =
    let (f, p) = (parser_exact (length text) a.words).1 a.are_file in
    (f, rw (le-leb (length text) MOST_BYTES a.short, verdict) (rw a.are_words (rw p (faultless_accepted f (a.faultless f p)))))
