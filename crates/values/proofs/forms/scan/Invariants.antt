use Rattle.std.proofs.Common.{◌≡◌, ◌<◌, ◌*◌, ◌^◌, drop}
use Rattle.values.specs.definitions.Forms.{scanned}
use Rattle.values.proofs.forms.scan.Given as goal

-- the digits that are left, after the number so far, give what all of them give; each digit takes 4 bits at most
abbrev pub invariant-loop-c : goal.invariant-loop-c
invariant-loop-c l = record {
  fits : l.n < 2 ^ (4 * l.c-index);
  gives : scanned l.base l.n (drop l.c-index l.digits) ≡ scanned l.base 0 l.digits;
}
