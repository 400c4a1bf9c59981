-- What a report was made of, as C is told (IEEE 1588-2019, 11.3).
use Rattle.std.specs.Prelude.{◌≡◌, ℕ, pos, Option, MatchOption}
use Rattle.slave_port.specs.declared.exchange.LastExchange.{LastExchange}
use Rattle.slave_port.specs.Exchange.{age}
use Rattle.ptpx_c.specs.declared.exchange.RawExchange.{RawExchange}
use Rattle.ptpx_c.specs.Words.{units_of, signed_of}

-- the fields say this exchange
pub record SaysExchange (said : RawExchange) (x : LastExchange) : Type 0 where
  pub t1 : units_of said.t1 ≡ x.t1
  pub t2 : units_of said.t2 ≡ x.t2
  pub t3 : units_of said.t3 ≡ x.t3
  pub t4 : units_of said.t4 ≡ x.t4
  pub age : signed_of said.age ≡ pos (age x)
  pub sync_correction : said.sync_correction ≡ x.sync_correction
  pub follow_correction : said.follow_correction ≡ x.follow_correction
  pub response_correction : said.response_correction ≡ x.response_correction
  pub sync_number : said.sync_number ≡ x.sync_number.0
  pub request_number : said.request_number ≡ x.request_number.0

-- the exchange is put there, or there is none and what was there stays
abbrev pub IsPut : Option LastExchange → (code : ℕ) → (old new : RawExchange) → Type 0
IsPut last code old new =
    MatchOption last ((code ≡ 910) × (new ≡ old)) (λ x. (code ≡ 0) × SaysExchange new x)
