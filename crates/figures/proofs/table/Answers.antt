use Rattle.std.proofs.Common.{refl}
use Rattle.figures.proofs.table.Goals as goal

pub returns : goal.returns
returns c = record {
  monthly_balancing = record {
    whole_band_is_kept = λ d. refl;
    past_the_band_is_tier_one = λ d. refl;
    ten_percent_under_is_tier_one = λ d. refl;
    past_ten_percent_is_tier_two = λ d. refl;
    no_usage_keeps_nothing = λ d. refl;
    small_usage_keeps_nothing = λ d. refl;
  };
  self_balancing_days = record {
    past_one_percent_is_tier_two = λ u. refl;
    ten_percent_of_a_day_is_allowed = λ d z. refl;
    past_ten_percent_of_a_day = λ d z. (refl, refl);
    past_one_percent_accumulated = λ r u f. refl;
  };
  money = record { half_a_cent_goes_away_from_zero = λ u v w k t. refl };
  cards = record { citygate_is_rounded_up = (refl, refl) };
}
