-- The numbers of stops that the records keep stay right when a carrier or a stop is entered.
use Rattle.std.proofs.Common.{◌≡◌, ℕ, ◌<◌, List, [], ◌∷◌, ◌++◌, length, set, Some, None, sym, ◌∙◌, arith}
use Rattle.std.specs.List.{slice_get}
use Rattle.std.proofs.lemmas.Option.{none-some, slice_get_within}
use Rattle.sheet.specs.declared.records.Carrier.{Carrier}
use Rattle.sheet.specs.declared.records.Stop.{Stop}
use Rattle.sheet.specs.declared.records.Precedence.{Precedence}
use Rattle.sheet.specs.Book.{Book, Visits, Next, Starts, Latest}
use Rattle.sheet.specs.Records.{book_stop, book_from, Numbered, gone_on}
use Rattle.sheet.proofs.SliceGet.{slice_get-push_cases, slice_get-set_cases}
use Rattle.sheet.proofs.Grown.{visits_at, visits_within, OneMoreStop, one_more_stop, visits_kept, visits_new, visits_cases, starts_kept, next_kept, latest_kept, latest_new}

module _ (cs cs' : List Carrier) (ss : List Stop) (y : Stop) (ps : List Precedence) (right : Numbered cs ss ps) where
  abbrev after : Book
  after = book_from cs' (ss ++ y ∷ []) ps

  longer : OneMoreStop (book_from cs ss ps) after (length ss) (book_stop y)
  longer = one_more_stop cs cs' ss y ps ps

  module _ (latest : (c : ℕ) (x : Carrier) → slice_get cs' c ≡ Some x → Latest after c x.last_stop x.last_place)
      (earlier : (p : ℕ) → y.previous ≡ Some p → p < length ss)
      (previous : (p : ℕ) (z : Stop) → y.previous ≡ Some p → slice_get ss p ≡ Some z → Next after y.carrier p z.place (length ss) y.place)
      (starts : y.previous ≡ None → Starts after y.carrier (length ss) y.place) where
    numbered_more : Numbered cs' (ss ++ y ∷ []) ps
    numbered_more = record {
      latest = latest;
      earlier = λ s p x e q. grind (arith, slice_get-push_cases ss y x s e, right.earlier, earlier);
      previous = λ s p x z e q f. grind (arith, slice_get-push_cases ss y x s e, slice_get-push_cases ss y z p f, earlier p, previous p z, right.earlier s p x, slice_get_within ss s x, right.previous s p x z, next_kept longer x.carrier p z.place s x.place);
      starts = λ s x e q. grind (arith, slice_get-push_cases ss y x s e, starts_kept longer x.carrier s x.place, right.starts s x);
      first_stop = λ k x e. visits_kept longer _ _ _ (right.first_stop k x e);
      second_stop = λ k x e. visits_kept longer _ _ _ (right.second_stop k x e);
    }

-- a carrier, with its first stop
module _ (cs : List Carrier) (ss : List Stop) (ps : List Precedence) (right : Numbered cs ss ps) (start goal : ℕ) where
  abbrev its_stop : Stop
  its_stop = record { carrier = length cs; place = start; previous = None }

  abbrev its_record : Carrier
  its_record = record { start = start; goal = goal; last_stop = length ss; last_place = start }

  abbrev with : Book
  with = book_from (cs ++ its_record ∷ []) (ss ++ its_stop ∷ []) ps

  with_one : OneMoreStop (book_from cs ss ps) with (length ss) (book_stop its_stop)
  with_one = one_more_stop cs (cs ++ its_record ∷ []) ss its_stop ps ps

  latest : (c : ℕ) (x : Carrier) → slice_get (cs ++ its_record ∷ []) c ≡ Some x → Latest with c x.last_stop x.last_place
  latest c x e = grind (arith, slice_get-push_cases cs its_record x c e, slice_get_within cs c x, right.latest c x, latest_kept with_one c x.last_stop x.last_place, latest_new with_one)

  pub numbered_carrier : ((s c u : ℕ) → Visits (book_from cs ss ps) s c u → c < length cs) → Numbered (cs ++ its_record ∷ []) (ss ++ its_stop ∷ []) ps
  numbered_carrier known =
      numbered_more cs (cs ++ its_record ∷ []) ss its_stop ps right latest
      (λ p q. absurd (none-some p q))
      (λ p z q. absurd (none-some p q))
      (λ q. record {
        here = visits_new with_one;
        first = λ r w l v. grind (arith, visits_cases with_one r (length cs) w v, known r (length cs) w);
      })

-- a further stop of a carrier
module _ (cs : List Carrier) (ss : List Stop) (ps : List Precedence) (right : Numbered cs ss ps) (carrier place : ℕ) (x : Carrier) (there : slice_get cs carrier ≡ Some x) where
  abbrev next_stop : Stop
  next_stop = record { carrier = carrier; place = place; previous = Some x.last_stop }

  abbrev carriers_on : List Carrier
  carriers_on = set cs carrier (gone_on x (length ss) place)

  abbrev on : Book
  on = book_from carriers_on (ss ++ next_stop ∷ []) ps

  on_one : OneMoreStop (book_from cs ss ps) on (length ss) (book_stop next_stop)
  on_one = one_more_stop cs carriers_on ss next_stop ps ps

  latest_on : (c : ℕ) (z : Carrier) → slice_get carriers_on c ≡ Some z → Latest on c z.last_stop z.last_place
  latest_on c z e = grind (arith, slice_get-set_cases cs carrier c (gone_on x (length ss) place) z e, latest_kept on_one c z.last_stop z.last_place, right.latest c z, latest_new on_one)

  was : Latest (book_from cs ss ps) carrier x.last_stop x.last_place
  was = right.latest carrier x there

  follows : (z : Stop) → slice_get ss x.last_stop ≡ Some z → Next on carrier x.last_stop z.place (length ss) place
  follows z e = record {
    here = visits_kept on_one x.last_stop carrier z.place
        (was.here ∙ λ i. Some (record { carrier = carrier; place = sym (visits_at cs ss ps _ _ _ z e was.here).1 i }));
    there = visits_new on_one;
    later = visits_within cs ss ps _ _ _ was.here;
    none_between = λ r w l m v. grind (arith, was, visits_cases on_one r carrier w v);
  }

  pub numbered_stop : Numbered carriers_on (ss ++ next_stop ∷ []) ps
  numbered_stop =
      numbered_more cs carriers_on ss next_stop ps right latest_on
      (λ p q. grind (arith, visits_within cs ss ps _ _ _ was.here))
      (λ p z q e. grind (arith, follows z))
      (λ q. absurd (none-some _ (sym q)))
