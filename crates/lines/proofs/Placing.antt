-- Text that is placed in a page.
use Rattle.std.proofs.Common.{◌≡◌, ℕ, ◌-◌, ◌*◌, ◌≤◌, cond, List, ◌++◌, length, take, drop, is_ok, Ok, Result, arith}
use borrow.Rule.Slice.PartMut.{put_mid}
use Rattle.std.proofs.lemmas.Bool.Decides.{nat_tests}
use Rattle.std.proofs.lemmas.Grind.{common_steps}
use Rattle.lines.specs.declared.refusal.WriteRefusal.{WriteRefusal}
use Rattle.lines.specs.Digits.{digits}
use Rattle.lines.specs.Pages.{written, placing}
use Rattle.lines.proofs.Hexadecimal.{length_digits}

-- the part of a page from a position on was lent, and bytes were written as digits to its front
pub landed : (page part bs : List ℕ) (at : ℕ) → at ≤ length page → part ≡ digits bs ++ drop (2 * length bs) (take (length page - at) (drop at page)) → put_mid at (length page - at) page part ≡ written page at (digits bs)
landed page part bs at h e = grind (arith, common_steps, length_digits bs)

-- a text that was placed stands in the page from the position on
pub placed_there : (page text after : List ℕ) (at n : ℕ) (r : Result ℕ WriteRefusal) → r ≡ placing page at text → after ≡ cond (is_ok r) (written page at text) page → r ≡ Ok n → take n (drop at after) ≡ text
placed_there page text after at n r value left h = grind (arith, nat_tests, common_steps)
