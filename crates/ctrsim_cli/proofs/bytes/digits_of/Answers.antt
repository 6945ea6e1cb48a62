use Rattle.std.proofs.Common.{arith, append-nil, length, ap, ◌∙◌, ◌++◌, List, ℕ}
use Rattle.ctrsim_cli.specs.SampleText.{dec}
use Rattle.ctrsim_cli.proofs.TextDigits.{dec_most}
use Rattle.ctrsim_cli.proofs.bytes.digits_of.Goals as goal

pub loop-rest-init : goal.loop-rest-init
loop-rest-init c =
    let none = c.new-digits.ensures in record {
      number = ap (λ (t : List ℕ). dec c.args.number ++ t) none ∙ append-nil (dec c.args.number);
      room = omega (arith, dec_most c.args.number c.ranges.number.fits, ap length none);
    }
