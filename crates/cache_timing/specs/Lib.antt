pub mod Params
pub mod Cache
pub mod Caches
pub mod Ages
pub mod CacheStandsFor
pub mod CachesStandFor
