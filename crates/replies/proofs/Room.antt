-- Whether a page has room for a reply, and what then stands in it.
use Rattle.std.proofs.Common.{◌≡◌, ℕ, ◌+◌, ◌*◌, ◌≤◌, true, cond, List, length, take, drop, is_ok, IfOk, Ok, Err, Result, refl, arith}
use Rattle.std.proofs.lemmas.Bool.Decides.{nat_tests}
use Rattle.lines.specs.Pages.{placing, written}
use Rattle.lines.specs.declared.refusal.WriteRefusal.{WriteRefusal}
use Rattle.lines.proofs.Hexadecimal.{length_digits}
use Rattle.lines.proofs.Placing.{placed_there}
use Rattle.replies.specs.Answers.{Answer, accepted, passed, ring, refused, bytes_of, count, four, line_of, pair, writing}
use Rattle.replies.proofs.Listing.{length_listed}

-- how many digits a reply has
abbrev pub size_of : Answer → ℕ
size_of (accepted number) = 6
size_of (passed arrivals) = 6 + 8 * length arrivals
size_of (ring stops) = 6 + 4 * length stops
size_of (refused number first second) = 10

pub reply_size : (reply : Answer) → length (line_of reply) ≡ size_of reply
unfolding line_of
reply_size (accepted number) = omega (arith, length_digits (bytes_of (accepted number)))
reply_size (passed arrivals) = omega (arith, length_listed four 4 (λ _. refl) 0 arrivals)
reply_size (ring stops) = omega (arith, length_listed pair 2 (λ _. refl) 17 stops)
reply_size (refused number first second) = omega (arith, length_digits (bytes_of (refused number first second)))

module _ (page : List ℕ) (at : ℕ) (r : Result ℕ WriteRefusal) (reply : Answer) (few : count reply ≤ 65535) (value : r ≡ writing page at reply) where
  pub reply_placed : r ≡ placing page at (line_of reply)
  reply_placed = grind (arith, nat_tests)

  -- it finds room where the page has it
  pub reply_room : at + length (line_of reply) ≤ length page → is_ok r ≡ true
  reply_room h = grind (arith, nat_tests)

  -- and is then within the page
  pub reply_within : IfOk r (λ n. at + n ≤ length page)
  reply_within = grind (arith, nat_tests)

  -- where it stands
  pub reply_there : (page' : List ℕ) → page' ≡ cond (is_ok r) (written page at (line_of reply)) page → (n : ℕ) → r ≡ Ok n → take n (drop at page') ≡ line_of reply
  reply_there page' after n ok = placed_there page (line_of reply) page' at n r reply_placed after ok
